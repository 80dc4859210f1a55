-- The code of a tree as a list of its own: what the reader has emitted, and what the code is, with appending.
use Rattle.std.proofs.Common.{◌≡◌, List, [], ◌∷◌, ◌++◌, refl, ap, ◌∙◌, append_assoc}
use Rattle.language.specs.Base.{Lexeme}
use Rattle.language.specs.Syntax.{Ty, int, dat, box, ref, mut, Expr, num, var, op, ctor, boxed, call, share}
use Rattle.language.specs.Syntax.{lend, load, get_e, Exprs, nil_e, cons_e, Stmt, bind, assign, store, put_s}
use Rattle.language.specs.Syntax.{cond, loop, match_s, open_s, inside, Stmts, nil_s, cons_s, Alts, no_alts, alt}
use Rattle.language.specs.Syntax.{Body, body, Tail, give, give_cond, give_match, Arms, no_arms, arm, Ctor}
use Rattle.language.specs.Syntax.{Param}
use Rattle.code.specs.Instr.{Instr, i_num, i_var, i_int, i_op, i_make, i_call, i_arg, i_apply, i_box, i_share}
use Rattle.code.specs.Instr.{i_lend, i_load, i_get, i_bind, i_assign, i_store, i_put, i_if, i_else, i_end_if}
use Rattle.code.specs.Instr.{i_while, i_do, i_end_while, i_match, i_arm, i_name, i_body, i_end_arm, i_end_match}
use Rattle.code.specs.Instr.{i_open, i_inside, i_give, i_end_fn, i_ty_int, i_ty_data, i_ty_box, i_ty_ref}
use Rattle.code.specs.Instr.{i_ty_mut, i_field, i_ctor, i_data, i_param, i_fn, code_e, code_es, code_names}
use Rattle.code.specs.Instr.{code_s, code_ss, code_alts, code_body, code_tail, code_arms, code_ty, code_fields}
use Rattle.code.specs.Instr.{code_ctors, code_params, code_item, code_items, Item, a_data, a_fn}

abbrev mutual
  pub flat_e : Expr → List Instr
  flat_e (num k) = i_num k ∷ []
  flat_e (var x) = i_var x ∷ []
  flat_e (op k a b) = flat_e a ++ (i_int ∷ (flat_e b ++ (i_op k ∷ [])))
  flat_e (ctor c es) = i_make c ∷ flat_es es
  flat_e (boxed a) = flat_e a ++ (i_box ∷ [])
  flat_e (call c es) = i_call c ∷ flat_es es
  flat_e (share x) = i_share x ∷ []
  flat_e (lend x) = i_lend x ∷ []
  flat_e (load x) = i_load x ∷ []
  flat_e get_e = i_get ∷ []

  pub flat_es : Exprs → List Instr
  flat_es nil_e = i_apply ∷ []
  flat_es (cons_e e es) = flat_e e ++ (i_arg ∷ flat_es es)

abbrev pub flat_names : List Lexeme → List Instr
flat_names [] = []
flat_names (x ∷ xs) = i_name x ∷ flat_names xs

abbrev mutual
  pub flat_s : Stmt → List Instr
  flat_s (bind x e) = flat_e e ++ (i_bind x ∷ [])
  flat_s (assign x e) = flat_e e ++ (i_assign x ∷ [])
  flat_s (store x e) = flat_e e ++ (i_store x ∷ [])
  flat_s (put_s e) = flat_e e ++ (i_put ∷ [])
  flat_s (cond e a b) = flat_e e ++ (i_if ∷ (flat_ss a ++ (i_else ∷ (flat_ss b ++ (i_end_if ∷ [])))))
  flat_s (loop e a) = i_while ∷ (flat_e e ++ (i_do ∷ (flat_ss a ++ (i_end_while ∷ []))))
  flat_s (match_s w x as₁) = i_match w x ∷ flat_alts as₁
  flat_s (open_s x y) = i_open x y ∷ []
  flat_s (inside x y) = i_inside x y ∷ []

  pub flat_ss : Stmts → List Instr
  flat_ss nil_s = []
  flat_ss (cons_s s ss) = flat_s s ++ flat_ss ss

  pub flat_alts : Alts → List Instr
  flat_alts no_alts = i_end_match ∷ []
  flat_alts (alt c xs ss as₁) = i_arm c ∷
      (flat_names xs ++ (i_body ∷ (flat_ss ss ++ (i_end_arm ∷ flat_alts as₁))))

abbrev mutual
  pub flat_body : Body → List Instr
  flat_body (body ss t) = flat_ss ss ++ flat_tail t

  pub flat_tail : Tail → List Instr
  flat_tail (give e) = flat_e e ++ (i_give ∷ [])
  flat_tail (give_cond e a b) = flat_e e ++
      (i_if ∷ (flat_body a ++ (i_else ∷ (flat_body b ++ (i_end_if ∷ [])))))
  flat_tail (give_match w x as₁) = i_match w x ∷ flat_arms as₁

  pub flat_arms : Arms → List Instr
  flat_arms no_arms = i_end_match ∷ []
  flat_arms (arm c xs b as₁) = i_arm c ∷
      (flat_names xs ++ (i_body ∷ (flat_body b ++ (i_end_arm ∷ flat_arms as₁))))

abbrev pub flat_ty : Ty → List Instr
flat_ty int = i_ty_int ∷ []
flat_ty (dat d) = i_ty_data d ∷ []
flat_ty (box t) = flat_ty t ++ (i_ty_box ∷ [])
flat_ty (ref t) = flat_ty t ++ (i_ty_ref ∷ [])
flat_ty (mut t) = flat_ty t ++ (i_ty_mut ∷ [])

abbrev pub flat_fields : List Ty → List Instr
flat_fields [] = []
flat_fields (t ∷ ts) = flat_ty t ++ (i_field ∷ flat_fields ts)

abbrev pub flat_ctors : List Ctor → List Instr
flat_ctors [] = []
flat_ctors (c ∷ cs) = flat_fields c.fields ++ (i_ctor c.name ∷ flat_ctors cs)

abbrev pub flat_params : List Param → List Instr
flat_params [] = []
flat_params (p ∷ ps) = flat_ty p.ty ++ (i_param p.name ∷ flat_params ps)

abbrev pub flat_item : Item → List Instr
flat_item (a_data d) = flat_ctors d.ctors ++ (i_data d.name d.last ∷ [])
flat_item (a_fn f) = flat_params f.pars ++
    (flat_ty f.ret ++ (i_fn f.name ∷ (flat_body f.does ++ (i_end_fn ∷ []))))

abbrev pub flat_items : List Item → List Instr
flat_items [] = []
flat_items (i ∷ is) = flat_item i ++ flat_items is

-- in front of code, they are the code
onto : (f : List Instr → List Instr) (xs ys is zs : List Instr) → ((r : List Instr) → xs ++ r ≡ f r) → ys ++ is
    ≡ zs → (xs ++ ys) ++ is ≡ f zs
onto f xs ys is zs h k = append_assoc xs ys is ∙ h (ys ++ is) ∙ ap f k

first : (i : Instr) {xs ys : List Instr} → xs ≡ ys → i ∷ xs ≡ i ∷ ys
first i h = ap (λ (r : List Instr). i ∷ r) h

mutual
  on_e : (e : Expr) (is : List Instr) → flat_e e ++ is ≡ code_e e is
  on_e (num k) is = refl
  on_e (var x) is = refl
  on_e (op k a b) is = onto (code_e a) (flat_e a) _ is _ (λ r. on_e a r)
      (first i_int (onto (code_e b) (flat_e b) _ is _ (λ r. on_e b r) refl))
  on_e (ctor c es) is = first (i_make c) (on_es es is)
  on_e (boxed a) is = onto (code_e a) (flat_e a) _ is _ (λ r. on_e a r) refl
  on_e (call c es) is = first (i_call c) (on_es es is)
  on_e (share x) is = refl
  on_e (lend x) is = refl
  on_e (load x) is = refl
  on_e get_e is = refl

  on_es : (es : Exprs) (is : List Instr) → flat_es es ++ is ≡ code_es es is
  on_es nil_e is = refl
  on_es (cons_e e es) is = onto (code_e e) (flat_e e) _ is _ (λ r. on_e e r) (first i_arg (on_es es is))

on_names : (xs : List Lexeme) (ys is zs : List Instr) → ys ++ is ≡ zs → (flat_names xs ++ (i_body ∷ ys)) ++ is
    ≡ code_names xs zs
on_names [] ys is zs k = first i_body k
on_names (x ∷ xs) ys is zs k = first (i_name x) (on_names xs ys is zs k)

mutual
  on_s : (s : Stmt) (is : List Instr) → flat_s s ++ is ≡ code_s s is
  on_s (bind x e) is = onto (code_e e) (flat_e e) _ is _ (λ r. on_e e r) refl
  on_s (assign x e) is = onto (code_e e) (flat_e e) _ is _ (λ r. on_e e r) refl
  on_s (store x e) is = onto (code_e e) (flat_e e) _ is _ (λ r. on_e e r) refl
  on_s (put_s e) is = onto (code_e e) (flat_e e) _ is _ (λ r. on_e e r) refl
  on_s (cond e a b) is = onto (code_e e) (flat_e e) _ is _ (λ r. on_e e r)
      (first i_if (onto (code_ss a) (flat_ss a) _ is _ (λ r. on_ss a r)
      (first i_else (onto (code_ss b) (flat_ss b) _ is _ (λ r. on_ss b r) refl))))
  on_s (loop e a) is = first i_while (onto (code_e e) (flat_e e) _ is _ (λ r. on_e e r)
      (first i_do (onto (code_ss a) (flat_ss a) _ is _ (λ r. on_ss a r) refl)))
  on_s (match_s w x as₁) is = first (i_match w x) (on_alts as₁ is)
  on_s (open_s x y) is = refl
  on_s (inside x y) is = refl

  on_ss : (ss : Stmts) (is : List Instr) → flat_ss ss ++ is ≡ code_ss ss is
  on_ss nil_s is = refl
  on_ss (cons_s s ss) is = onto (code_s s) (flat_s s) _ is _ (λ r. on_s s r) (on_ss ss is)

  on_alts : (as₁ : Alts) (is : List Instr) → flat_alts as₁ ++ is ≡ code_alts as₁ is
  on_alts no_alts is = refl
  on_alts (alt c xs ss as₁) is = first (i_arm c) (on_names xs _ is _
      (onto (code_ss ss) (flat_ss ss) _ is _ (λ r. on_ss ss r) (first i_end_arm (on_alts as₁ is))))

mutual
  on_body : (b : Body) (is : List Instr) → flat_body b ++ is ≡ code_body b is
  on_body (body ss t) is = onto (code_ss ss) (flat_ss ss) _ is _ (λ r. on_ss ss r) (on_tail t is)

  on_tail : (t : Tail) (is : List Instr) → flat_tail t ++ is ≡ code_tail t is
  on_tail (give e) is = onto (code_e e) (flat_e e) _ is _ (λ r. on_e e r) refl
  on_tail (give_cond e a b) is = onto (code_e e) (flat_e e) _ is _ (λ r. on_e e r)
      (first i_if (onto (code_body a) (flat_body a) _ is _ (λ r. on_body a r)
      (first i_else (onto (code_body b) (flat_body b) _ is _ (λ r. on_body b r) refl))))
  on_tail (give_match w x as₁) is = first (i_match w x) (on_arms as₁ is)

  on_arms : (as₁ : Arms) (is : List Instr) → flat_arms as₁ ++ is ≡ code_arms as₁ is
  on_arms no_arms is = refl
  on_arms (arm c xs b as₁) is = first (i_arm c) (on_names xs _ is _
      (onto (code_body b) (flat_body b) _ is _ (λ r. on_body b r) (first i_end_arm (on_arms as₁ is))))

on_ty : (t : Ty) (is : List Instr) → flat_ty t ++ is ≡ code_ty t is
on_ty int is = refl
on_ty (dat d) is = refl
on_ty (box t) is = onto (code_ty t) (flat_ty t) _ is _ (λ r. on_ty t r) refl
on_ty (ref t) is = onto (code_ty t) (flat_ty t) _ is _ (λ r. on_ty t r) refl
on_ty (mut t) is = onto (code_ty t) (flat_ty t) _ is _ (λ r. on_ty t r) refl

on_fields : (ts : List Ty) (is : List Instr) → flat_fields ts ++ is ≡ code_fields ts is
on_fields [] is = refl
on_fields (t ∷ ts) is = onto (code_ty t) (flat_ty t) _ is _ (λ r. on_ty t r) (first i_field (on_fields ts is))

on_ctors : (cs : List Ctor) (is : List Instr) → flat_ctors cs ++ is ≡ code_ctors cs is
on_ctors [] is = refl
on_ctors (c ∷ cs) is = onto (code_fields c.fields) (flat_fields c.fields) _ is _
    (λ r. on_fields c.fields r) (first (i_ctor c.name) (on_ctors cs is))

on_params : (ps : List Param) (is : List Instr) → flat_params ps ++ is ≡ code_params ps is
on_params [] is = refl
on_params (p ∷ ps) is = onto (code_ty p.ty) (flat_ty p.ty) _ is _ (λ r. on_ty p.ty r)
    (first (i_param p.name) (on_params ps is))

on_item : (i : Item) (is : List Instr) → flat_item i ++ is ≡ code_item i is
on_item (a_data d) is =
    onto (code_ctors d.ctors) (flat_ctors d.ctors) _ is _ (λ r. on_ctors d.ctors r) refl
on_item (a_fn f) is = onto (code_params f.pars) (flat_params f.pars) _ is _ (λ r. on_params f.pars r)
    (onto (code_ty f.ret) (flat_ty f.ret) _ is _ (λ r. on_ty f.ret r)
    (first (i_fn f.name)
    (onto (code_body f.does) (flat_body f.does) _ is _ (λ r. on_body f.does r) refl)))

pub flat_code : (is : List Item) → flat_items is ≡ code_items is
flat_code [] = refl
flat_code (i ∷ is) = ap (λ (r : List Instr). flat_item i ++ r) (flat_code is) ∙ on_item i (code_items is)
