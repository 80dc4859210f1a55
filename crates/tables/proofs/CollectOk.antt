-- The tables collected from the code of a program are its declarations.
use Rattle.std.proofs.Common.{◌≡◌, List, [], ◌∷◌, ◌++◌, sym, refl, ap, ◌∙◌, ap₂, append_assoc, append-nil}
use Rattle.language.specs.Base.{Lexeme}
use Rattle.language.specs.Syntax.{Ty, int, dat, box, ref, mut, Expr, num, var, op, ctor, boxed, call, share, lend, load, get_e, Exprs, nil_e, cons_e, Stmt, bind, assign, store, put_s, cond, loop, match_s, open_s, inside, Stmts, nil_s, cons_s, Alts, no_alts, alt, Body, body, Tail, give, give_cond, give_match, Arms, no_arms, arm, Ctor, Data, Param, Fn}
use Rattle.code.specs.Instr.{Instr, i_end_fn, code_e, code_es, code_names, code_s, code_ss, code_alts, code_body, code_tail, code_arms, code_ty, code_fields, code_ctors, code_params, code_items, Item, a_data, a_fn, gather}
use Rattle.tables.specs.Heads.{sig_of}
use Rattle.tables.specs.Collect.{Entry, Tables, with_ty, declared, collect, tables_of}

-- bodies declare nothing
mutual
  skip_e : (e : Expr) (is : List Instr) (c : Tables) → collect (code_e e is) c ≡ collect is c
  skip_e (num k) is c = refl
  skip_e (var x) is c = refl
  skip_e (op k a b) is c = skip_e a _ c ∙ skip_e b _ c
  skip_e (ctor d es) is c = skip_es es is c
  skip_e (boxed a) is c = skip_e a _ c
  skip_e (call f es) is c = skip_es es is c
  skip_e (share x) is c = refl
  skip_e (lend x) is c = refl
  skip_e (load x) is c = refl
  skip_e get_e is c = refl

  skip_es : (es : Exprs) (is : List Instr) (c : Tables) → collect (code_es es is) c ≡ collect is c
  skip_es nil_e is c = refl
  skip_es (cons_e e es) is c = skip_e e _ c ∙ skip_es es is c

skip_names : (xs : List Lexeme) (is : List Instr) (c : Tables) → collect (code_names xs is) c ≡ collect is c
skip_names [] is c = refl
skip_names (x ∷ xs) is c = skip_names xs is c

mutual
  skip_s : (s : Stmt) (is : List Instr) (c : Tables) → collect (code_s s is) c ≡ collect is c
  skip_s (bind x e) is c = skip_e e _ c
  skip_s (assign x e) is c = skip_e e _ c
  skip_s (store x e) is c = skip_e e _ c
  skip_s (put_s e) is c = skip_e e _ c
  skip_s (cond e a b) is c = skip_e e _ c ∙ skip_ss a _ c ∙ skip_ss b _ c
  skip_s (loop e a) is c = skip_e e _ c ∙ skip_ss a _ c
  skip_s (match_s w x as₁) is c = skip_alts as₁ is c
  skip_s (open_s x y) is c = refl
  skip_s (inside x y) is c = refl

  skip_ss : (ss : Stmts) (is : List Instr) (c : Tables) → collect (code_ss ss is) c ≡ collect is c
  skip_ss nil_s is c = refl
  skip_ss (cons_s s ss) is c = skip_s s _ c ∙ skip_ss ss is c

  skip_alts : (as₁ : Alts) (is : List Instr) (c : Tables) → collect (code_alts as₁ is) c ≡ collect is c
  skip_alts no_alts is c = refl
  skip_alts (alt d xs ss as₁) is c = skip_names xs _ c ∙ skip_ss ss _ c ∙ skip_alts as₁ is c

mutual
  skip_body : (b : Body) (is : List Instr) (c : Tables) → collect (code_body b is) c ≡ collect is c
  skip_body (body ss t) is c = skip_ss ss _ c ∙ skip_tail t is c

  skip_tail : (t : Tail) (is : List Instr) (c : Tables) → collect (code_tail t is) c ≡ collect is c
  skip_tail (give e) is c = skip_e e _ c
  skip_tail (give_cond e a b) is c = skip_e e _ c ∙ skip_body a _ c ∙ skip_body b _ c
  skip_tail (give_match w x as₁) is c = skip_arms as₁ is c

  skip_arms : (as₁ : Arms) (is : List Instr) (c : Tables) → collect (code_arms as₁ is) c ≡ collect is c
  skip_arms no_arms is c = refl
  skip_arms (arm d xs b as₁) is c = skip_names xs _ c ∙ skip_body b _ c ∙ skip_arms as₁ is c

-- a type; the fields of a constructor; constructors; parameters
coll_ty : (t : Ty) (is : List Instr) (c : Tables) → collect (code_ty t is) c ≡ collect is (with_ty c t)
coll_ty int is c = refl
coll_ty (dat d) is c = refl
coll_ty (box t) is c = coll_ty t _ c
coll_ty (ref t) is c = coll_ty t _ c
coll_ty (mut t) is c = coll_ty t _ c

coll_fields : (ts : List Ty) (is : List Instr) (ds : List Data) (es : List Entry) (us : List Ty) (ks : List Ctor) (ps : List Param) → collect (code_fields ts is) (declared ds es us ks ps) ≡ collect is (declared ds es (us ++ ts) ks ps)
coll_fields [] is ds es us ks ps = ap (λ us. collect is (declared ds es us ks ps)) (sym (append-nil us))
coll_fields (t ∷ ts) is ds es us ks ps = coll_ty t _ _ ∙ coll_fields ts is ds es (us ++ (t ∷ [])) ks ps ∙ ap (λ us. collect is (declared ds es us ks ps)) (append_assoc us (t ∷ []) ts)

coll_ctors : (cs : List Ctor) (is : List Instr) (ds : List Data) (es : List Entry) (ks : List Ctor) (ps : List Param) → collect (code_ctors cs is) (declared ds es [] ks ps) ≡ collect is (declared ds es [] (ks ++ cs) ps)
coll_ctors [] is ds es ks ps = ap (λ ks. collect is (declared ds es [] ks ps)) (sym (append-nil ks))
coll_ctors (k ∷ cs) is ds es ks ps = coll_fields k.fields _ ds es [] ks ps ∙ coll_ctors cs is ds es (ks ++ (k ∷ [])) ps ∙ ap (λ ks. collect is (declared ds es [] ks ps)) (append_assoc ks (k ∷ []) cs)

coll_params : (qs : List Param) (is : List Instr) (ds : List Data) (es : List Entry) (us : List Ty) (ks : List Ctor) (ps : List Param) → collect (code_params qs is) (declared ds es us ks ps) ≡ collect is (declared ds es us ks (ps ++ qs))
coll_params [] is ds es us ks ps = ap (λ ps. collect is (declared ds es us ks ps)) (sym (append-nil ps))
coll_params (q ∷ qs) is ds es us ks ps = coll_ty q.ty _ _ ∙ coll_params qs is ds es us ks (ps ++ (q ∷ [])) ∙ ap (λ ps. collect is (declared ds es us ks ps)) (append_assoc ps (q ∷ []) qs)

-- the items' data, functions, and entries
abbrev pub datas_of : List Item → List Data
datas_of [] = []
datas_of (a_data d ∷ is) = d ∷ datas_of is
datas_of (a_fn f ∷ is) = datas_of is

abbrev pub fns_of : List Item → List Fn
fns_of [] = []
fns_of (a_data d ∷ is) = fns_of is
fns_of (a_fn f ∷ is) = f ∷ fns_of is

abbrev pub entry : Fn → List Instr → Entry
entry f is = record { sig = sig_of f; code = code_body f.does (i_end_fn ∷ is) }

abbrev pub entries_of : List Item → List Entry
entries_of [] = []
entries_of (a_data d ∷ is) = entries_of is
entries_of (a_fn f ∷ is) = entry f (code_items is) ∷ entries_of is

coll_items : (is : List Item) (ds : List Data) (es : List Entry) → collect (code_items is) (declared ds es [] [] []) ≡ declared (ds ++ datas_of is) (es ++ entries_of is) [] [] []
coll_items [] ds es = ap₂ (λ ds es. declared ds es [] [] []) (sym (append-nil ds)) (sym (append-nil es))
coll_items (a_data d ∷ is) ds es = coll_ctors d.ctors _ ds es [] [] ∙ coll_items is (ds ++ (d ∷ [])) es ∙ ap (λ ds. declared ds (es ++ entries_of is) [] [] []) (append_assoc ds (d ∷ []) (datas_of is))
coll_items (a_fn f ∷ is) ds es = coll_params f.pars _ ds es [] [] [] ∙ coll_ty f.ret _ _ ∙ skip_body f.does _ _ ∙ coll_items is ds (es ++ (entry f (code_items is) ∷ [])) ∙ ap (λ es. declared (ds ++ datas_of is) es [] [] []) (append_assoc es (entry f (code_items is) ∷ []) (entries_of is))

pub tables_are : (is : List Item) → tables_of (code_items is) ≡ declared (datas_of is) (entries_of is) [] [] []
tables_are is = coll_items is [] []

gather_is : (is : List Item) (ds : List Data) (fs : List Fn) → gather ds fs is ≡ record { datas = ds ++ datas_of is; funs = fs ++ fns_of is }
gather_is [] ds fs = ap₂ (λ ds fs. record { datas = ds; funs = fs }) (sym (append-nil ds)) (sym (append-nil fs))
gather_is (a_data d ∷ is) ds fs = gather_is is (ds ++ (d ∷ [])) fs ∙ ap (λ ds. record { datas = ds; funs = fs ++ fns_of is }) (append_assoc ds (d ∷ []) (datas_of is))
gather_is (a_fn f ∷ is) ds fs = gather_is is ds (fs ++ (f ∷ [])) ∙ ap (λ fs. record { datas = ds ++ datas_of is; funs = fs }) (append_assoc fs (f ∷ []) (fns_of is))

pub gathered_is : (is : List Item) → gather [] [] is ≡ record { datas = datas_of is; funs = fns_of is }
gathered_is is = gather_is is [] []
