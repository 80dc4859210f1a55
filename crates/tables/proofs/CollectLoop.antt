-- A loop over the code's instructions that notes each of them.
use Rattle.std.proofs.Common.{◌≡◌, ℕ, zero, suc, ◌+◌, ◌-◌, ◌*◌, ◌/◌, ◌<◌, ◌≤◌, Bool, List, [], ◌++◌, map, length, Some, None, Option, sym, refl, ap, ◌∙◌, subst, arith, lt→ltb}
use Rattle.code.specs.Means.{means}
use Rattle.code.specs.declared.instr.Instr.{Instr}
use Rattle.tables.specs.declared.progress.Progress.{Progress}
use Rattle.std.specs.Option.{option_to_list}
use Rattle.std.proofs.lemmas.List.{map-append}
use Rattle.code.specs.Words.{instr_at, instrs_in, code_in}
use Rattle.code.specs.declared.instr.Instr.TheVariants.{Num, Var, Int, Op, Make, Call, Arg, Apply, Box, Share, Lend, Load, Get, Bind, Assign, Store, Put, If, Else, EndIf, While, Do, EndWhile, Match, Arm, Part, Body, EndArm, EndMatch, Open, Inside, Give, EndFn, TyInt, TyData, TyBox, TyRef, TyMut, Field, Ctor, Data, Param, Fn}
use Rattle.types.specs.Types.{role_of, role_in, after, written}
use Rattle.language.specs.Base.{choose}
use Rattle.language.specs.Syntax.{Ty}
use Rattle.tables.proofs.SizeFuel.{is_true}
use Rattle.tables.specs.Collect.{with_ty, collect, tables_of}
use Rattle.tables.specs.View.{Words, tables_in, Within}
use Rattle.tables.specs.Declares.{ty_after, Stands, Noted, NotedSlot, used}
use Rattle.tables.specs.Source.{put_before, last_in, rows_held, instrs_from, source, rows_in}
use Rattle.tables.specs.Collected.{Collected}

-- what an instruction makes of the type under way
role_ty : (text : List ℕ) (i : Instr) (t : Ty) → after text (role_of i) t ≡ ty_after (means text i) t
role_ty text (Num n) t = refl
role_ty text (Var x) t = refl
role_ty text Int t = refl
role_ty text (Op o) t = refl
role_ty text (Make x) t = refl
role_ty text (Call x) t = refl
role_ty text Arg t = refl
role_ty text Apply t = refl
role_ty text Box t = refl
role_ty text (Share x) t = refl
role_ty text (Lend x) t = refl
role_ty text (Load x) t = refl
role_ty text Get t = refl
role_ty text (Bind x) t = refl
role_ty text (Assign x) t = refl
role_ty text (Store x) t = refl
role_ty text Put t = refl
role_ty text If t = refl
role_ty text Else t = refl
role_ty text EndIf t = refl
role_ty text While t = refl
role_ty text Do t = refl
role_ty text EndWhile t = refl
role_ty text (Match w x) t = refl
role_ty text (Arm x) t = refl
role_ty text (Part x) t = refl
role_ty text Body t = refl
role_ty text EndArm t = refl
role_ty text EndMatch t = refl
role_ty text (Open x y) t = refl
role_ty text (Inside x y) t = refl
role_ty text Give t = refl
role_ty text EndFn t = refl
role_ty text TyInt t = refl
role_ty text (TyData x) t = refl
role_ty text TyBox t = refl
role_ty text TyRef t = refl
role_ty text TyMut t = refl
role_ty text Field t = refl
role_ty text (Ctor x) t = refl
role_ty text (Data x y) t = refl
role_ty text (Param x) t = refl
role_ty text (Fn x) t = refl

written_step : (text code : List ℕ) (k : ℕ) (o : Option Instr) → (k + 1) * 3 ≤ length code → instr_at code k ≡ o → written text code (k + 1) ≡ after text (role_in o) (written text code k)
written_step text code k o h e =
    let s : k + 1 ≡ suc k = omega arith in
    let l : k < length code / 3 = omega arith in
    ap (written text code) s ∙ ap (λ (b : Bool). after text (choose b (role_in (instr_at code k)) None) (written text code k)) (is_true _ (lt→ltb k (length code / 3) l)) ∙ ap (λ (o : Option Instr). after text (role_in o) (written text code k)) e

stands : (text code : List ℕ) (n k : ℕ) (i : Instr) → (k + 1) * 3 ≤ length code → instr_at code k ≡ Some i → Stands (source text code n) k (means text i)
stands text code n k i l h = record { ty = written_step text code k (Some i) l h ∙ role_ty text i (written text code k); last = ap (last_in text) h }

pub code_step : (text code : List ℕ) (i n : ℕ) → i < n → instrs_from text code i (n - i) ≡ put_before text (instr_at code i) (instrs_from text code (i + 1) (n - (i + 1)))
code_step text code i n h =
    let e : n - i ≡ suc (n - (i + 1)) = omega arith in
    let g : suc i ≡ i + 1 = omega arith in
    ap (instrs_from text code i) e ∙ ap (λ j. put_before text (instr_at code i) (instrs_from text code j (n - (i + 1)))) g

rows_step : (code : List ℕ) (i n : ℕ) → i < n → rows_in code i (n - i) ≡ rows_held (instr_at code i) + rows_in code (i + 1) (n - (i + 1))
rows_step code i n h =
    let e : n - i ≡ suc (n - (i + 1)) = omega arith in
    let g : suc i ≡ i + 1 = omega arith in
    ap (rows_in code i) e ∙ ap (λ j. rows_held (instr_at code i) + rows_in code j (n - (i + 1))) g

-- all the code, from its first slot on
more_code : (text code : List ℕ) (k n : ℕ) → instrs_from text code k (n + 1) ≡ instrs_from text code k n ++ map (means text) (option_to_list (instr_at code (k + n)))
more_code text code k zero = let e : k + 0 ≡ k = omega arith in one (instr_at code k) ∙ ap (λ j. map (means text) (option_to_list (instr_at code j))) (sym e)
  where
    one : (o : Option Instr) → put_before text o [] ≡ map (means text) (option_to_list o)
    one None = refl
    one (Some i) = refl
more_code text code k (suc n) =
    let e : suc n + 1 ≡ suc (n + 1) = omega arith in
    let d : suc k + n ≡ k + suc n = omega arith in
    ap (instrs_from text code k) e ∙ ap (put_before text (instr_at code k)) (more_code text code (suc k) n ∙ ap (λ j. instrs_from text code (suc k) n ++ map (means text) (option_to_list (instr_at code j))) d) ∙ out (instr_at code k)
  where
    out : (o : Option Instr) → put_before text o (instrs_from text code (suc k) n ++ map (means text) (option_to_list (instr_at code (k + suc n)))) ≡ put_before text o (instrs_from text code (suc k) n) ++ map (means text) (option_to_list (instr_at code (k + suc n)))
    out None = refl
    out (Some i) = refl

pub code_is : (text code : List ℕ) (n : ℕ) → code_in text code n ≡ instrs_from text code 0 n
code_is text code zero = refl
code_is text code (suc n) =
    let e : n + 1 ≡ suc n = omega arith in
    let z : 0 + n ≡ n = omega arith in
    map-append (means text) (instrs_in code n) (option_to_list (instr_at code n)) ∙ ap (λ is. is ++ map (means text) (option_to_list (instr_at code n))) (code_is text code n)
    ∙ ap (λ j. instrs_from text code 0 n ++ map (means text) (option_to_list (instr_at code j))) (sym z) ∙ sym (more_code text code 0 n) ∙ ap (instrs_from text code 0) e

-- the first i instructions are noted
pub record Noting (code : List ℕ) (n i : ℕ) (w : Words) (p : Progress) : Type 0 where
  pub tables : (text : List ℕ) → collect (instrs_from text code i (n - i)) (tables_in (source text code n) w p i) ≡ tables_of (instrs_from text code 0 n)
  pub within : Within w p n
  pub rows : used p + rows_in code i (n - i) ≡ rows_in code 0 n
  pub fields : p.fields.end ≤ i

goes_on : (code : List ℕ) (n i : ℕ) (w v : Words) (p q : Progress) (it : Instr) → n * 3 ≤ length code → i < n → instr_at code i ≡ Some it → Noted it i w p v q → Noting code n i w p → Noting code n (i + 1) v q
goes_on code n i w v p q it b l e h g = record {
  tables = λ text. ap (collect (instrs_from text code (i + 1) (n - (i + 1)))) (h.declares n g.within (source text code n) (stands text code n i it (omega arith) e))
      ∙ sym (ap (λ is. collect is (tables_in (source text code n) w p i)) (code_step text code i n l ∙ ap (λ (o : Option Instr). put_before text o (instrs_from text code (i + 1) (n - (i + 1)))) e)) ∙ g.tables text;
  within = h.within n g.within l;
  rows = (let a = h.rows in let b = g.rows in let c = rows_step code i n l in let d = ap rows_held e in omega arith);
  fields = (let a = h.fields in let b = g.fields in omega arith);
}

-- a slot that holds no instruction is passed over
goes_past : (code : List ℕ) (n i : ℕ) (w : Words) (p : Progress) → n * 3 ≤ length code → i < n → instr_at code i ≡ None → Noting code n i w p → Noting code n (i + 1) w p
goes_past code n i w p b l e g = record {
  tables = λ text. ap (λ t. collect (instrs_from text code (i + 1) (n - (i + 1))) (with_ty (tables_in (source text code n) w p i) t)) (still text)
      ∙ sym (ap (λ is. collect is (tables_in (source text code n) w p i)) (code_step text code i n l ∙ ap (λ (o : Option Instr). put_before text o (instrs_from text code (i + 1) (n - (i + 1)))) e)) ∙ g.tables text;
  within = g.within;
  rows = (let b = g.rows in let c = rows_step code i n l in let d = ap rows_held e in omega arith);
  fields = (let b = g.fields in omega arith);
}
  where
    still : (text : List ℕ) → written text code (i + 1) ≡ written text code i
    still text = written_step text code i None (omega arith) e

pub noted_slot : (code : List ℕ) (n i : ℕ) (w v : Words) (p q : Progress) → n * 3 ≤ length code → i < n → NotedSlot (instr_at code i) i w p v q → Noting code n i w p → Noting code n (i + 1) v q
noted_slot code n i w v p q b l h g = at (instr_at code i) refl h
  where
    at : (o : Option Instr) → instr_at code i ≡ o → NotedSlot o i w p v q → Noting code n (i + 1) v q
    at None e h = subst (λ v. Noting code n (i + 1) v q) (sym h.0) (subst (λ q. Noting code n (i + 1) w q) (sym h.1) (goes_past code n i w p b l e g))
    at (Some it) e h = goes_on code n i w v p q it b l e h g

pub ended : (code : List ℕ) (n i : ℕ) (w : Words) (p : Progress) → i ≡ n → Noting code n i w p → Collected code n w p
ended code n i w p e g = record {
  tables = λ text. ap (tables_in (source text code n) w p) (sym e) ∙ sym (ap (λ m. collect (instrs_from text code i m) (tables_in (source text code n) w p i)) z) ∙ g.tables text ∙ ap tables_of (sym (code_is text code n));
  within = g.within;
  rows = (let r = g.rows in omega arith);
  fields = (let f = g.fields in omega arith);
}
  where
    z : n - i ≡ 0
    z = omega arith
