-- What a row added to one of the tables makes of all of them.
use Rattle.std.proofs.Common.{◌≡◌, ℕ, zero, suc, ◌+◌, ◌<◌, ◌≤◌, List, get_or, Option, sym, refl, ap, ◌∙◌, subst, arith, below_more}
use Rattle.lexer.specs.declared.name.Name.{Name}
use Rattle.code.specs.declared.instr.Instr.{Instr}
use Rattle.code.specs.declared.instr.Instr.TheVariants.{Field, Ctor, Data, Param, Fn}
use Rattle.tables.specs.declared.rows.Declared.{Declared}
use Rattle.tables.specs.declared.rows.Parameter.{Parameter}
use Rattle.tables.specs.declared.progress.Progress.{Progress}
use Rattle.tables.specs.Rows.{declared_row, param_row, end_before}
use Rattle.tables.specs.Steps.{with_field, with_ctor, with_data, with_param, with_fn}
use Rattle.tables.specs.View.{Words}
use Rattle.tables.specs.Declares.{Noted}
use Rattle.tables.proofs.Declares.{notes_field, notes_ctor, notes_data, notes_param, notes_fn}

pub noted_as : {i j : Instr} {at : ℕ} {w v : Words} {p q : Progress} → i ≡ j → Noted j at w p v q → Noted i at w p v q
noted_as {i} {j} {at} {w} {v} {p} {q} e h = subst (λ k. Noted k at w p v q) (sym e) h

-- a row is added at k: it's there, and the others stay
abbrev pub Put : {A : Type 0} → (ℕ → A) → (ℕ → A) → ℕ → A → Type 0
Put old new k r = (new k ≡ r) × ((j : ℕ) → (j ≡ k → ⊥) → new j ≡ old j)

-- what holds of rows below k, and of the one at k
more : {A : Type 0} (P : A → Type 0) (old new : ℕ → A) (k : ℕ) (r : A) → Put old new k r → ((j : ℕ) → j < k → P (old j)) → P r → (j : ℕ) → j < k + 1 → P (new j)
more P old new k r h b here = below_more (λ j. P (new j)) k (λ j l. subst P (sym (h.1 j (λ e. omega arith))) (b j l)) (subst P (sym h.0) here)

under : {A : Type 0} (old new : ℕ → A) (k : ℕ) (r : A) → Put old new k r → (j : ℕ) → j < k → new j ≡ old j
under old new k r h j l = h.1 j (λ e. omega arith)

pub noted_field : (w : Words) (fs : List ℕ) (p : Progress) (at : ℕ) → Put (λ k. get_or w.fields k 0) (λ k. get_or fs k 0) p.fields.end at
    → Noted Field at w p (record { datas = w.datas; ctors = w.ctors; fields = fs; fns = w.fns; params = w.params }) (with_field p)
noted_field w fs p at h = record {
  declares = λ n i s t. notes_field s w v p n at i (record { fields = under _ _ _ at h; ctors = λ k l. refl; datas = λ k l. refl; fns = λ k l. refl; params = λ k l. refl }) h.0 t.ty;
  within = λ n i l. record {
    datas = i.datas;
    ctors = λ k b. (let e = i.ctors k b in omega arith);
    fns = i.fns;
    ctors_open = i.ctors_open;
    fields_open = (let e = i.fields_open in omega arith);
    params_open = i.params_open;
    joined = i.joined;
    ordered = i.ordered;
    next = i.next;
    datas_at = i.datas_at;
    fields_at = more (λ a. a < n) _ _ _ at h i.fields_at l;
    fns_at = i.fns_at;
    params_at = i.params_at;
  };
  rows = omega arith;
  fields = omega arith;
}
  where
    v : Words
    v = record { datas = w.datas; ctors = w.ctors; fields = fs; fns = w.fns; params = w.params }

pub noted_ctor : (w : Words) (cs : List ℕ) (p : Progress) (at : ℕ) (x : Name) → Put (declared_row w.ctors) (declared_row cs) p.ctors.end (record { name = x; at = at; parts = p.fields })
    → Noted (Ctor x) at w p (record { datas = w.datas; ctors = cs; fields = w.fields; fns = w.fns; params = w.params }) (with_ctor p)
noted_ctor w cs p at x h = record {
  declares = λ n i s t. notes_ctor s w v p n at r i (record { fields = λ k l. refl; ctors = under _ _ _ r h; datas = λ k l. refl; fns = λ k l. refl; params = λ k l. refl }) h.0 refl t.ty;
  within = λ n i l. record {
    datas = λ k b. (let e = i.datas k b in omega arith);
    ctors = more (λ (r : Declared). r.parts.end ≤ p.fields.end) _ _ _ r h i.ctors (omega arith);
    fns = i.fns;
    ctors_open = (let e = i.ctors_open in omega arith);
    fields_open = omega arith;
    params_open = i.params_open;
    joined = i.joined;
    ordered = i.ordered;
    next = i.next;
    datas_at = i.datas_at;
    fields_at = i.fields_at;
    fns_at = i.fns_at;
    params_at = i.params_at;
  };
  rows = omega arith;
  fields = omega arith;
}
  where
    v : Words
    v = record { datas = w.datas; ctors = cs; fields = w.fields; fns = w.fns; params = w.params }

    r : Declared
    r = record { name = x; at = at; parts = p.fields }

pub noted_data : (w : Words) (ds : List ℕ) (p : Progress) (at : ℕ) (x : Name) (y : Option Name) → Put (declared_row w.datas) (declared_row ds) p.datas (record { name = x; at = at; parts = p.ctors })
    → Noted (Data x y) at w p (record { datas = ds; ctors = w.ctors; fields = w.fields; fns = w.fns; params = w.params }) (with_data p)
noted_data w ds p at x y h = record {
  declares = λ n i s t. notes_data s w v p n at r _ t.last i (record { fields = λ k l. refl; ctors = λ k l. refl; datas = under _ _ _ r h; fns = λ k l. refl; params = λ k l. refl }) h.0 refl t.ty;
  within = λ n i l. record {
    datas = more (λ (r : Declared). r.parts.end ≤ p.ctors.end) _ _ _ r h i.datas (omega arith);
    ctors = i.ctors;
    fns = i.fns;
    ctors_open = omega arith;
    fields_open = omega arith;
    params_open = i.params_open;
    joined = below_more (λ k. (declared_row ds k).parts.first ≡ end_before ds k) p.datas (λ k b. ap (λ (r : Declared). r.parts.first) (under _ _ _ r h k b) ∙ i.joined k b ∙ sym (ends k (omega arith))) (ap (λ (r : Declared). r.parts.first) h.0 ∙ i.next ∙ sym (ends p.datas (omega arith)));
    ordered = more (λ (r : Declared). r.parts.first ≤ r.parts.end) _ _ _ r h i.ordered i.ctors_open;
    next = last;
    datas_at = more (λ (r : Declared). r.at < n) _ _ _ r h i.datas_at l;
    fields_at = i.fields_at;
    fns_at = i.fns_at;
    params_at = i.params_at;
  };
  rows = omega arith;
  fields = omega arith;
}
  where
    v : Words
    v = record { datas = ds; ctors = w.ctors; fields = w.fields; fns = w.fns; params = w.params }

    r : Declared
    r = record { name = x; at = at; parts = p.ctors }

    ends : (k : ℕ) → k ≤ p.datas → end_before ds k ≡ end_before w.datas k
    ends zero b = refl
    ends (suc k) b = ap (λ (r : Declared). r.parts.end) (under _ _ _ r h k (omega arith))

    last : p.ctors.end ≡ end_before ds (p.datas + 1)
    last = let e : p.datas + 1 ≡ suc p.datas = omega arith in sym (ap (end_before ds) e ∙ ap (λ (r : Declared). r.parts.end) h.0)

pub noted_param : (w : Words) (qs : List ℕ) (p : Progress) (at : ℕ) (x : Name) → Put (param_row w.params) (param_row qs) p.params.end (record { name = x; at = at })
    → Noted (Param x) at w p (record { datas = w.datas; ctors = w.ctors; fields = w.fields; fns = w.fns; params = qs }) (with_param p)
noted_param w qs p at x h = record {
  declares = λ n i s t. notes_param s w v p n at r i (record { fields = λ k l. refl; ctors = λ k l. refl; datas = λ k l. refl; fns = λ k l. refl; params = under _ _ _ r h }) h.0 refl t.ty;
  within = λ n i l. record {
    datas = i.datas;
    ctors = i.ctors;
    fns = λ k b. (let e = i.fns k b in omega arith);
    ctors_open = i.ctors_open;
    fields_open = i.fields_open;
    params_open = (let e = i.params_open in omega arith);
    joined = i.joined;
    ordered = i.ordered;
    next = i.next;
    datas_at = i.datas_at;
    fields_at = i.fields_at;
    fns_at = i.fns_at;
    params_at = more (λ (r : Parameter). r.at < n) _ _ _ r h i.params_at l;
  };
  rows = omega arith;
  fields = omega arith;
}
  where
    v : Words
    v = record { datas = w.datas; ctors = w.ctors; fields = w.fields; fns = w.fns; params = qs }

    r : Parameter
    r = record { name = x; at = at }

pub noted_fn : (w : Words) (fs : List ℕ) (p : Progress) (at : ℕ) (x : Name) → Put (declared_row w.fns) (declared_row fs) p.fns (record { name = x; at = at; parts = p.params })
    → Noted (Fn x) at w p (record { datas = w.datas; ctors = w.ctors; fields = w.fields; fns = fs; params = w.params }) (with_fn p)
noted_fn w fs p at x h = record {
  declares = λ n i s t. notes_fn s w v p n at r i (record { fields = λ k l. refl; ctors = λ k l. refl; datas = λ k l. refl; fns = under _ _ _ r h; params = λ k l. refl }) h.0 refl refl t.ty;
  within = λ n i l. record {
    datas = i.datas;
    ctors = i.ctors;
    fns = more (λ (r : Declared). r.parts.end ≤ p.params.end) _ _ _ r h i.fns (omega arith);
    ctors_open = i.ctors_open;
    fields_open = i.fields_open;
    params_open = omega arith;
    joined = i.joined;
    ordered = i.ordered;
    next = i.next;
    datas_at = i.datas_at;
    fields_at = i.fields_at;
    fns_at = more (λ (r : Declared). r.at < n) _ _ _ r h i.fns_at l;
    params_at = i.params_at;
  };
  rows = omega arith;
  fields = omega arith;
}
  where
    v : Words
    v = record { datas = w.datas; ctors = w.ctors; fields = w.fields; fns = fs; params = w.params }

    r : Declared
    r = record { name = x; at = at; parts = p.params }
