-- Each instruction that declares something, noted in the tables.
use Rattle.std.proofs.Common.{◌≡◌, ℕ, ◌+◌, List, [], ◌∷◌, ◌++◌, get_or, ap, ◌∙◌, ap₂, arith}
use Rattle.language.specs.Base.{Lexeme}
use Rattle.language.specs.Syntax.{Ty, int, Ctor, Data, Param}
use Rattle.lexer.specs.Spelling.{spelling}
use Rattle.tables.specs.declared.rows.Declared.{Declared}
use Rattle.tables.specs.declared.rows.Parameter.{Parameter}
use Rattle.tables.specs.declared.progress.Progress.{Progress}
use Rattle.tables.specs.Index.{all_in}
use Rattle.tables.specs.Rows.{declared_row, param_row}
use Rattle.tables.specs.Steps.{with_field, with_ctor, with_data, with_param, with_fn}
use Rattle.tables.specs.Collect.{Entry, Tables, declared}
use Rattle.tables.specs.View.{Words, Source, field_at, ctor_at, data_at, param_at, entry_at, tables_in, Within}
use Rattle.tables.proofs.Index.{each_more, all_more, all_none}
use Rattle.tables.proofs.Frame.{Same, ctor_by, data_by, param_by, entry_by, fields_same, ctors_same, datas_same, params_same, entries_same}

tables_same : {ds es : List Data} {fs gs : List Entry} {t u : Ty} {ts us : List Ty} {cs ks : List Ctor} {ps qs : List Param} → ds ≡ es → fs ≡ gs → t ≡ u → ts ≡ us → cs ≡ ks → ps ≡ qs
    → (let a : Tables = record { datas = ds; entries = fs; ty = t; fields = ts; ctors = cs; params = ps } in let b : Tables = record { datas = es; entries = gs; ty = u; fields = us; ctors = ks; params = qs } in a ≡ b)
tables_same a b c d e f = cc

pub notes_field : (s : Source) (w v : Words) (p : Progress) (n at : ℕ) → Within w p n → Same w v p → get_or v.fields p.fields.end 0 ≡ at → s.type_at (at + 1) ≡ int
    → (let c = tables_in s w p at in tables_in s v (with_field p) (at + 1) ≡ declared c.datas c.entries (c.fields ++ (c.ty ∷ [])) c.ctors c.params)
notes_field s w v p n at i h e t = tables_same (datas_same s w v p n h i) (entries_same s w v p n h i) t
    (all_more (field_at s v) p.fields i.fields_open ∙ ap₂ (λ ts u. ts ++ (u ∷ [])) (fields_same s w v p h p.fields (omega arith)) (ap s.type_at e))
    (ctors_same s w v p n h i p.ctors (omega arith)) (params_same s w v p h p.params (omega arith))

pub notes_ctor : (s : Source) (w v : Words) (p : Progress) (n at : ℕ) (r : Declared) → Within w p n → Same w v p → declared_row v.ctors p.ctors.end ≡ r → r.parts ≡ p.fields → s.type_at (at + 1) ≡ int
    → (let c = tables_in s w p at in tables_in s v (with_ctor p) (at + 1) ≡ declared c.datas c.entries [] (c.ctors ++ (record { name = spelling s.text r.name; fields = c.fields } ∷ [])) c.params)
notes_ctor s w v p n at r i h e f t = tables_same (datas_same s w v p n h i) (entries_same s w v p n h i) t (all_none (field_at s v) p.fields.end)
    (all_more (ctor_at s v) p.ctors i.ctors_open ∙ ap₂ (λ cs c. cs ++ (c ∷ [])) (ctors_same s w v p n h i p.ctors (omega arith))
    (ap (ctor_by s v) e ∙ ap (λ (ts : List Ty). record { name = spelling s.text r.name; fields = ts }) (ap (all_in (field_at s v)) f ∙ fields_same s w v p h p.fields (omega arith))))
    (params_same s w v p h p.params (omega arith))

pub notes_data : (s : Source) (w v : Words) (p : Progress) (n at : ℕ) (r : Declared) (l : Lexeme) → s.last_at r.at ≡ l → Within w p n → Same w v p → declared_row v.datas p.datas ≡ r → r.parts ≡ p.ctors → s.type_at (at + 1) ≡ int
    → (let c = tables_in s w p at in tables_in s v (with_data p) (at + 1) ≡ declared (c.datas ++ (record { name = spelling s.text r.name; ctors = c.ctors; last = l } ∷ [])) c.entries [] [] c.params)
notes_data s w v p n at r l g i h e f t = tables_same
    (each_more (data_at s v) 0 p.datas ∙ ap₂ (λ ds d. ds ++ (d ∷ [])) (datas_same s w v p n h i) (ap (data_at s v) z ∙ ap (data_by s v) e ∙ ap₂ (λ (cs : List Ctor) (y : Lexeme). record { name = spelling s.text r.name; ctors = cs; last = y }) (ap (all_in (ctor_at s v)) f ∙ ctors_same s w v p n h i p.ctors (omega arith)) g))
    (entries_same s w v p n h i) t (all_none (field_at s v) p.fields.end) (all_none (ctor_at s v) p.ctors.end) (params_same s w v p h p.params (omega arith))
  where
    z : 0 + p.datas ≡ p.datas
    z = omega arith

pub notes_param : (s : Source) (w v : Words) (p : Progress) (n at : ℕ) (r : Parameter) → Within w p n → Same w v p → param_row v.params p.params.end ≡ r → r.at ≡ at → s.type_at (at + 1) ≡ int
    → (let c = tables_in s w p at in tables_in s v (with_param p) (at + 1) ≡ declared c.datas c.entries c.fields c.ctors (c.params ++ (record { name = spelling s.text r.name; ty = c.ty } ∷ [])))
notes_param s w v p n at r i h e f t = tables_same (datas_same s w v p n h i) (entries_same s w v p n h i) t (fields_same s w v p h p.fields (omega arith)) (ctors_same s w v p n h i p.ctors (omega arith))
    (all_more (param_at s v) p.params i.params_open ∙ ap₂ (λ qs q. qs ++ (q ∷ [])) (params_same s w v p h p.params (omega arith)) (ap (param_by s) e ∙ ap (λ (u : Ty). record { name = spelling s.text r.name; ty = u }) (ap s.type_at f)))

pub notes_fn : (s : Source) (w v : Words) (p : Progress) (n at : ℕ) (r : Declared) → Within w p n → Same w v p → declared_row v.fns p.fns ≡ r → r.parts ≡ p.params → r.at ≡ at → s.type_at (at + 1) ≡ int
    → (let c = tables_in s w p at in tables_in s v (with_fn p) (at + 1) ≡ declared c.datas (c.entries ++ (record { sig = record { name = spelling s.text r.name; params = c.params; ret = c.ty }; code = s.code_from (at + 1) } ∷ [])) c.fields c.ctors [])
notes_fn s w v p n at r i h e f g t = tables_same (datas_same s w v p n h i)
    (each_more (entry_at s v) 0 p.fns ∙ ap₂ (λ es e. es ++ (e ∷ [])) (entries_same s w v p n h i) (ap (entry_at s v) z ∙ ap (entry_by s v) e ∙ ap₂ (λ (qs : List Param) (k : ℕ). record { sig = record { name = spelling s.text r.name; params = qs; ret = s.type_at k }; code = s.code_from (k + 1) }) (ap (all_in (param_at s v)) f ∙ params_same s w v p h p.params (omega arith)) g))
    t (fields_same s w v p h p.fields (omega arith)) (ctors_same s w v p n h i p.ctors (omega arith)) (all_none (param_at s v) p.params.end)
  where
    z : 0 + p.fns ≡ p.fns
    z = omega arith
