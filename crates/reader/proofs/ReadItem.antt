-- Types, declarations, items: a step reads what the definition reads; the program is what its items make.
use Rattle.std.proofs.Common.{◌≡◌, ℕ, zero, suc, List, [], ◌∷◌, ◌++◌, sym, refl, ◌∙◌, append_assoc, append-nil, arith}
use mathlib.Core.Option.{Option, some, none}
use Rattle.language.specs.Base.{choose, if_some, Lexeme, same}
use Rattle.language.specs.Syntax.{Ty, Body, Ctor, Data, Param, Fn, Prog}
use Rattle.language.specs.Text.{Found, found, go_on, expect, read_name, peek, skip_one, is_lower, is_upper}
use Rattle.language.specs.Text.{sg_lp, sg_rp, sg_comma, sg_semi, sg_colon, sg_bar, sg_gets, kw_data, kw_drop}
use Rattle.language.specs.Text.{kw_fn, kw_mut, kw_box, kw_ref, kw_int, read_type, read_items}
use Rattle.language.specs.Text as text
use Rattle.code.specs.Instr.{Instr, i_end_fn, i_data, i_fn}
use Rattle.code.specs.Instr.{Item, a_data, a_fn, gather}
use Rattle.reader.specs.Symbol.{s_emit, s_token, s_type, s_fields, s_fields_on, s_some_fields, s_ctors}
use Rattle.reader.specs.Symbol.{s_ctors_on, s_params, s_params_on, s_some_params, s_drop, s_items, push}
use Rattle.reader.specs.Symbol.{with_name, step}
use Rattle.reader.proofs.Flat.{flat_body, flat_ty, flat_fields, flat_ctors, flat_params, flat_items}
use Rattle.reader.proofs.ReadSymbol.{with_item, items_of, coded, read_symbol, act}
use Rattle.reader.proofs.Joints.{ways, named, pasts}

pub type_ok : (f : ℕ) (t : Lexeme) (ts : List Lexeme) (o : List Instr) → read_symbol s_type (suc f) (t ∷ ts) o
    ≡ act f o (step s_type (t ∷ ts))
type_ok f t ts o =
    let F = coded flat_ty o in
    let G = act f o in
    ways F G (same t kw_int) refl
    (ways F G (same t kw_box) (grind (arith, append_assoc))
    (ways F G (same t kw_ref) (grind (arith, append_assoc))
    (ways F G (same t kw_mut) (grind (arith, append_assoc))
    (ways F G (is_lower t) refl refl))))

pub fields_ok : (f : ℕ) (ts : List Lexeme) (o : List Instr) → read_symbol s_fields (suc f) ts o
    ≡ act f o (step s_fields ts)
fields_ok f ts o = grind (arith, append_assoc, append-nil)

pub fields_on_ok : (f : ℕ) (ts : List Lexeme) (o : List Instr) → read_symbol s_fields_on f ts o
    ≡ act f o (step s_fields_on ts)
fields_on_ok f ts o = ways (λ m. m) (act f o) (same (peek ts) sg_comma) (grind arith)
    (pasts (λ m. m) (act f o) sg_rp ts _ _ refl (λ r. refl))

pub some_fields_ok : (f : ℕ) (ts : List Lexeme) (o : List Instr) → read_symbol s_some_fields f ts o
    ≡ act f o (step s_some_fields ts)
some_fields_ok f ts o =
    ways (coded flat_fields o) (act f o) (same (peek ts) sg_lp) (grind arith) (grind (arith, append-nil))

pub ctors_ok : (f : ℕ) (ts : List Lexeme) (o : List Instr) → read_symbol s_ctors (suc f) ts o
    ≡ act f o (step s_ctors ts)
ctors_ok f ts o =
    let F = coded flat_ctors o in
    let G = act f o in
    named F G is_upper ts _ _ refl (λ c l. grind (arith, append_assoc, append-nil))

pub ctors_on_ok : (f : ℕ) (ts : List Lexeme) (o : List Instr) → read_symbol s_ctors_on f ts o
    ≡ act f o (step s_ctors_on ts)
ctors_on_ok f ts o = ways (λ m. m) (act f o) (same (peek ts) sg_bar) (grind arith) refl

pub params_ok : (f : ℕ) (ts : List Lexeme) (o : List Instr) → read_symbol s_params (suc f) ts o
    ≡ act f o (step s_params ts)
params_ok f ts o =
    let F = coded flat_params o in
    let G = act f o in
    named F G is_lower ts _ _ refl
    (λ x l. pasts F G sg_colon l _ _ refl (λ r. grind (arith, append_assoc, append-nil)))

pub params_on_ok : (f : ℕ) (ts : List Lexeme) (o : List Instr) → read_symbol s_params_on f ts o
    ≡ act f o (step s_params_on ts)
params_on_ok f ts o = ways (λ m. m) (act f o) (same (peek ts) sg_comma) (grind arith)
    (pasts (λ m. m) (act f o) sg_rp ts _ _ refl (λ r. refl))

pub some_params_ok : (f : ℕ) (ts : List Lexeme) (o : List Instr) → read_symbol s_some_params f ts o
    ≡ act f o (step s_some_params ts)
some_params_ok f ts o =
    ways (coded flat_params o) (act f o) (same (peek ts) sg_rp) (grind (arith, append-nil)) (grind arith)

pub drop_ok : (d : Lexeme) (f : ℕ) (ts : List Lexeme) (o : List Instr) → read_symbol (s_drop d) f ts o
    ≡ act f o (step (s_drop d) ts)
drop_ok d f ts o =
    let F : Option (Found Lexeme) → Option (Found (List Instr)) =
    λ m. go_on m (λ w r. expect sg_semi r (λ r1. found (o ++ (i_data d w ∷ [])) r1)) in
    let G = act f o in
    ways F G (same (peek ts) kw_drop) (named_drop ts) (semi_leaf [] ts)
  where
    semi_leaf : (w : Lexeme) (r : List Lexeme) → expect sg_semi r (λ r1. found (o ++ (i_data d w ∷ [])) r1)
        ≡ go_on (expect sg_semi r (λ r1. found o r1)) (λ o1 r1. found (o1 ++ (i_data d w ∷ [])) r1)
    semi_leaf w [] = refl
    semi_leaf w (t ∷ r) = grind arith

    named_drop : (l : List Lexeme) → go_on (read_name is_lower (skip_one l))
        (λ w r. expect sg_semi r (λ r1. found (o ++ (i_data d w ∷ [])) r1))
        ≡ act f o (with_name is_lower (skip_one l) (λ w r. push (s_token sg_semi ∷ s_emit (i_data d w) ∷ []) r))
    named_drop l = named (λ m. m) (act f o) is_lower (skip_one l) _ _ refl (λ w r. semi_leaf w r)

data_leaf : (m : Option (Found (List Ctor))) (L : List Lexeme → Option (Found Lexeme))
    (N : List Lexeme → Option (List Item)) (d : Lexeme) (o : List Instr) →
    if_some (go_on m (λ cs l3. go_on (L l3) (λ g l4. expect sg_semi l4
    (λ l5. with_item (a_data (record { name = d; ctors = cs; last = g })) (N l5)))))
    (λ is. found (o ++ flat_items is) []) ≡ go_on (coded flat_ctors o m)
    (λ o1 r1. go_on (go_on (L r1) (λ w r. expect sg_semi r (λ r2. found (o1 ++ (i_data d w ∷ [])) r2)))
    (λ o3 r3. go_on (if_some (N r3) (λ is. found (o3 ++ flat_items is) [])) (λ o4 r4. found o4 r4)))
data_leaf m L N d o = grind (arith, append_assoc)

fn_leaf : (m : Option (Found (List Param))) (T : List Lexeme → Option (Found Ty))
    (B : List Lexeme → Option (Found Body)) (N : List Lexeme → Option (List Item)) (d : Lexeme)
    (o : List Instr) → if_some (go_on m (λ ps l3. expect sg_colon l3
    (λ l4. go_on (T l4) (λ ty1 l5. go_on (B l5)
    (λ b1 l6. with_item (a_fn (record { name = d; pars = ps; ret = ty1; does = b1 })) (N l6))))))
    (λ is. found (o ++ flat_items is) []) ≡ go_on (coded flat_params o m)
    (λ o1 r1. go_on (expect sg_colon r1 (λ r. found o1 r)) (λ o2 r2. go_on (coded flat_ty o2 (T r2))
    (λ o3 r3. go_on (coded flat_body (o3 ++ (i_fn d ∷ [])) (B r3))
    (λ o4 r4. go_on (if_some (N r4) (λ is. found ((o4 ++ (i_end_fn ∷ [])) ++ flat_items is) []))
    (λ o5 r5. found o5 r5)))))
fn_leaf m T B N d o = grind (arith, append_assoc)

pub items_ok : (f : ℕ) (ts : List Lexeme) (o : List Instr) → read_symbol s_items (suc f) ts o
    ≡ act f o (step s_items ts)
items_ok f [] o = grind (arith, append-nil)
items_ok f (t ∷ ts) o =
    let F : Option (List Item) → Option (Found (List Instr)) =
    λ m. if_some m (λ is. found (o ++ flat_items is) []) in
    let G = act f o in
    ways F G (same t kw_data) (named F G is_lower ts _ _ refl
    (λ d l1. pasts F G sg_gets l1 _ _ refl (λ l2. data_leaf (text.ctors f l2)
    (λ l. choose (same (peek l) kw_drop) (read_name is_lower (skip_one l)) (found [] l))
    (items_of f) d o)))
    (ways F G (same t kw_fn) (named F G is_lower ts _ _ refl
    (λ d l1. pasts F G sg_lp l1 _ _ refl
    (λ l2. fn_leaf (text.read_pars f l2) (read_type f) (text.a_body f) (items_of f) d o))) refl)

-- the definition's program is what its items make
after_some : {A B C : Type 0} (m : Option (Found A)) (fun : A → List Lexeme → Option B)
    (fun' : A → List Lexeme → Option C) (K : C → Option B) →
    ((a : A) (r : List Lexeme) → fun a r ≡ if_some (fun' a r) K) → go_on m fun ≡ if_some (go_on m fun') K
after_some none fun fun' K h = refl
after_some (some g) fun fun' K h = h g.what g.behind

after_past : {B C : Type 0} (w : Lexeme) (ts : List Lexeme) (fun : List Lexeme → Option B)
    (fun' : List Lexeme → Option C) (K : C → Option B) → ((r : List Lexeme) → fun r ≡ if_some (fun' r) K) →
    expect w ts fun ≡ if_some (expect w ts fun') K
after_past w [] fun fun' K h = refl
after_past w (t ∷ ts) fun fun' K h = ways (λ m. m) (λ m. if_some m K) (same w t) (h ts) refl

one_more : (i : Item) (m : Option (List Item)) (ds : List Data) (fs : List Fn) →
    if_some (with_item i m) (λ is. some (gather ds fs is)) ≡ if_some m (λ is. some (gather ds fs (i ∷ is)))
one_more i none ds fs = refl
one_more i (some is) ds fs = refl

pub gathered : (f : ℕ) (ts : List Lexeme) (ds : List Data) (fs : List Fn) → read_items f ts ds fs
    ≡ if_some (items_of f ts) (λ is. some (gather ds fs is))
gathered zero ts ds fs = refl
gathered (suc f) [] ds fs = refl
gathered (suc f) (t ∷ ts) ds fs =
    let K : List Item → Option Prog = λ is. some (gather ds fs is) in
    let G : Option (List Item) → Option Prog = λ m. if_some m K in
    ways (λ m. m) G (same t kw_data) (after_some (read_name is_lower ts) _ _ K
    (λ d l1. after_past sg_gets l1 _ _ K (λ l2. after_some (text.ctors f l2) _ _ K
    (λ cs l3. after_some
    (choose (same (peek l3) kw_drop) (read_name is_lower (skip_one l3)) (found [] l3)) _ _ K
    (λ g l4. after_past sg_semi l4 _ _ K (λ l5. gathered f l5
    (ds ++ (record { name = d; ctors = cs; last = g } ∷ [])) fs
    ∙ sym (one_more (a_data (record { name = d; ctors = cs; last = g }))
    (items_of f l5) ds fs)))))))
    (ways (λ m. m) G (same t kw_fn) (after_some (read_name is_lower ts) _ _ K
    (λ d l1. after_past sg_lp l1 _ _ K (λ l2. after_some (text.read_pars f l2) _ _ K
    (λ ps l3. after_past sg_colon l3 _ _ K (λ l4. after_some (read_type f l4) _ _ K
    (λ ty1 l5. after_some (text.a_body f l5) _ _ K
    (λ b1 l6. gathered f l6 ds
    (fs ++ (record { name = d; pars = ps; ret = ty1; does = b1 } ∷ []))
    ∙ sym (one_more
    (a_fn (record { name = d; pars = ps; ret = ty1; does = b1 }))
    (items_of f l6) ds fs)))))))) refl)
