-- What was declared stays as it is while rows are added behind.
use Rattle.std.proofs.Common.{◌≡◌, ℕ, ◌+◌, ◌<◌, ◌≤◌, List, get_or, ap, ◌∙◌, arith}
use Rattle.language.specs.Syntax.{Ty, Ctor, Data, Param}
use Rattle.lexer.specs.Spelling.{spelling}
use Rattle.tables.specs.declared.span.Span.{Span}
use Rattle.tables.specs.declared.rows.Declared.{Declared}
use Rattle.tables.specs.declared.rows.Parameter.{Parameter}
use Rattle.tables.specs.declared.progress.Progress.{Progress}
use Rattle.tables.specs.Index.{each_from, all_in}
use Rattle.tables.specs.Rows.{declared_row, param_row}
use Rattle.tables.specs.Collect.{Entry}
use Rattle.tables.specs.View.{Words, Source, field_at, ctor_at, data_at, param_at, entry_at, Within}
use Rattle.tables.proofs.Index.{each_same, all_same}

-- the same rows up to where the tables end
pub record Same (w v : Words) (p : Progress) : Type 0 where
  pub fields : (k : ℕ) → k < p.fields.end → get_or v.fields k 0 ≡ get_or w.fields k 0
  pub ctors : (k : ℕ) → k < p.ctors.end → declared_row v.ctors k ≡ declared_row w.ctors k
  pub datas : (k : ℕ) → k < p.datas → declared_row v.datas k ≡ declared_row w.datas k
  pub fns : (k : ℕ) → k < p.fns → declared_row v.fns k ≡ declared_row w.fns k
  pub params : (k : ℕ) → k < p.params.end → param_row v.params k ≡ param_row w.params k

-- what a row stands for
abbrev pub ctor_by : Source → Words → Declared → Ctor
ctor_by s w r = record { name = spelling s.text r.name; fields = all_in (field_at s w) r.parts }

abbrev pub data_by : Source → Words → Declared → Data
data_by s w r = record { name = spelling s.text r.name; ctors = all_in (ctor_at s w) r.parts; last = s.last_at r.at }

abbrev pub param_by : Source → Parameter → Param
param_by s r = record { name = spelling s.text r.name; ty = s.type_at r.at }

abbrev pub entry_by : Source → Words → Declared → Entry
entry_by s w r = record { sig = record { name = spelling s.text r.name; params = all_in (param_at s w) r.parts; ret = s.type_at r.at }; code = s.code_from (r.at + 1) }

pub fields_same : (s : Source) (w v : Words) (p : Progress) → Same w v p → (n : Span) → n.end ≤ p.fields.end → all_in (field_at s v) n ≡ all_in (field_at s w) n
fields_same s w v p h n b = all_same _ _ n (λ k l. ap s.type_at (h.fields k (omega arith)))

pub ctor_with : (s : Source) (w v : Words) (p : Progress) → Same w v p → (r : Declared) → r.parts.end ≤ p.fields.end → ctor_by s v r ≡ ctor_by s w r
ctor_with s w v p h r b = ap (λ (ts : List Ty). record { name = spelling s.text r.name; fields = ts }) (fields_same s w v p h r.parts b)

pub ctors_same : (s : Source) (w v : Words) (p : Progress) (m : ℕ) → Same w v p → Within w p m → (n : Span) → n.end ≤ p.ctors.end → all_in (ctor_at s v) n ≡ all_in (ctor_at s w) n
ctors_same s w v p m h i n b = all_same _ _ n (λ k l. ap (ctor_by s v) (h.ctors k (omega arith)) ∙ ctor_with s w v p h (declared_row w.ctors k) (i.ctors k (omega arith)))

pub data_with : (s : Source) (w v : Words) (p : Progress) (m : ℕ) → Same w v p → Within w p m → (r : Declared) → r.parts.end ≤ p.ctors.end → data_by s v r ≡ data_by s w r
data_with s w v p m h i r b = ap (λ (cs : List Ctor). record { name = spelling s.text r.name; ctors = cs; last = s.last_at r.at }) (ctors_same s w v p m h i r.parts b)

pub datas_same : (s : Source) (w v : Words) (p : Progress) (m : ℕ) → Same w v p → Within w p m → each_from (data_at s v) 0 p.datas ≡ each_from (data_at s w) 0 p.datas
datas_same s w v p m h i = each_same _ _ 0 p.datas (λ k a b. ap (data_by s v) (h.datas k (omega arith)) ∙ data_with s w v p m h i (declared_row w.datas k) (i.datas k (omega arith)))

pub params_same : (s : Source) (w v : Words) (p : Progress) → Same w v p → (n : Span) → n.end ≤ p.params.end → all_in (param_at s v) n ≡ all_in (param_at s w) n
params_same s w v p h n b = all_same _ _ n (λ k l. ap (param_by s) (h.params k (omega arith)))

pub entry_with : (s : Source) (w v : Words) (p : Progress) → Same w v p → (r : Declared) → r.parts.end ≤ p.params.end → entry_by s v r ≡ entry_by s w r
entry_with s w v p h r b = ap (λ (qs : List Param). record { sig = record { name = spelling s.text r.name; params = qs; ret = s.type_at r.at }; code = s.code_from (r.at + 1) }) (params_same s w v p h r.parts b)

pub entries_same : (s : Source) (w v : Words) (p : Progress) (m : ℕ) → Same w v p → Within w p m → each_from (entry_at s v) 0 p.fns ≡ each_from (entry_at s w) 0 p.fns
entries_same s w v p m h i = each_same _ _ 0 p.fns (λ k a b. ap (entry_by s v) (h.fns k (omega arith)) ∙ entry_with s w v p h (declared_row w.fns k) (i.fns k (omega arith)))
