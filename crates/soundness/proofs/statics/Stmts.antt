-- Static: what statements and alternatives make of the names in scope.
use mathlib.Core.Bool.{Bool, true, false}
use mathlib.Core.List.{List, [], ◌∷◌, ◌++◌}
use mathlib.Core.Option.{Option, some}
use mathlib.Core.Path.{◌≡◌, refl, ◌∙◌, subst}
use Rattle.language.specs.Base.{choose, if_some, Lexeme, same}
use Rattle.language.specs.Syntax.{Ty, int, dat, box, ref, mut, Access, Stmt, Stmts, Alts, Data, Prog, nil_s, cons_s, assign, store, bind, put_s, cond}
use Rattle.language.specs.Syntax.{loop, match_s, open_s, inside, Ctor, no_alts, alt}
use Rattle.language.specs.Checks.{Loan, Var, loan, Env, set_gone, enter, outer, both, bind_all, ctor_named, stmt, stmts, alts, goes_in, boxed_in}
use Rattle.language.specs.Checks.{is_no_alts}
use Rattle.language.specs.Meaning as me
use Rattle.soundness.proofs.Basics.{no_some, some_is, if_some_is, only_is, same_is}
use Rattle.soundness.proofs.invariant.Flags.{Weaker}
use Rattle.soundness.proofs.statics.Exprs.{EnvLike, like_self, like_then, like_gone, expr_like, fresh_like}
use Rattle.soundness.proofs.statics.Scopes.{Distinct, like_distinct, like_sym, both_like, both_left, both_right, Grows, grows_like, grows_then}
use Rattle.soundness.proofs.statics.Scopes.{fresh_none, grows_enter, outer_like, bind_grows, looks_like}
use Rattle.soundness.proofs.statics.StmtRules.{bind_rule, assign_rule, store_rule, put_rule, cond_rule, loop_rule, match_rule, open_rule, inside_rule}

goes_env : (g : Env) (v : Var) (x : Lexeme) (t : Ty) (h : Env) → goes_in g v x t ≡ some h → (u : Ty) × (ls : List Loan) × (enter g x u ls ≡ h)
goes_env g v x int h e = absurd (no_some e)
goes_env g v x (dat d) h e = absurd (no_some e)
goes_env g v x (box t) h e = absurd (no_some e)
goes_env g v x (ref t) h e =
    let y = if_some_is (boxed_in t) _ h e in
    (ref y.0, v.loans, some_is (only_is _ (some (enter g x (ref y.0) v.loans)) h y.2).1)
goes_env g v x (mut t) h e =
    let y = if_some_is (boxed_in t) _ h e in
    let ls = loan v.name true ∷ [] in
    (mut y.0, ls, some_is (only_is _ (some (enter g x (mut y.0) ls)) h y.2).1)

grows_is : (g h i : Env) → Grows g h → h ≡ i → Grows g i
grows_is g h i a e = subst (Grows g) e a

choose_like : (g : Env) (z : Bool) (h i : Env) → EnvLike g h → EnvLike g i → EnvLike g (choose z h i)
choose_like g true h i a k = a
choose_like g false h i a k = k

-- what an alternative that's accepted says: (ctor, names bound, names behind, names behind the others, ..)
pub alt_is : (q : Prog) (g : Env) (w : Access) (ls : List Loan) (d : Data) (k : Lexeme) (xs : List Lexeme) (ss : Stmts) (as₁ : Alts) (h : Env)
    → alts q g w ls d (alt k xs ss as₁) ≡ some h
    → (kk : Ctor) × (i : Env) × (j : Env) × (l : Env) × (ctor_named d.ctors k ≡ some kk) × (bind_all w ls g xs kk.fields ≡ some i)
    × (stmts q i ss ≡ some j) × (alts q g w ls d as₁ ≡ some l) × (choose (is_no_alts as₁) (outer g j) (both (outer g j) l) ≡ h)
alt_is q g w ls d k xs ss as₁ h e =
    let y = if_some_is (ctor_named d.ctors k)
    (λ kk. if_some (bind_all w ls g xs kk.fields)
    (λ i. if_some (stmts q i ss) (λ j. if_some (alts q g w ls d as₁)
    (λ l. some (choose (is_no_alts as₁) (outer g j) (both (outer g j) l)))))) h e in
    let y2 = if_some_is (bind_all w ls g xs y.0.fields)
    (λ i. if_some (stmts q i ss) (λ j. if_some (alts q g w ls d as₁) (λ l. some (choose (is_no_alts as₁) (outer g j) (both (outer g j) l))))) h
    y.2 in
    let y3 = if_some_is (stmts q y2.0 ss)
    (λ j. if_some (alts q g w ls d as₁) (λ l. some (choose (is_no_alts as₁) (outer g j) (both (outer g j) l)))) h y2.2 in
    let y4 = if_some_is (alts q g w ls d as₁) (λ l. some (choose (is_no_alts as₁) (outer g y3.0) (both (outer g y3.0) l))) h y3.2 in
    (y.0, y2.0, y3.0, y4.0, y.1, y2.1, y3.1, y4.1, some_is y4.2)

mutual
  pub stmt_grows : (q : Prog) (g : Env) (x : Stmt) (h : Env) → Distinct g → stmt q g x ≡ some h → Grows g h
  stmt_grows q g (bind x a) h u e =
      let i = bind_rule q g x a h e in
      let k = i.result.env in
      grows_is g (enter k x i.result.ty i.result.loans) h
      (grows_enter g k x i.result.ty i.result.loans (grows_like g k u (expr_like q [] g a i.result i.is_expr))
      (fresh_none k x i.is_fresh)) i.behind
  stmt_grows q g (assign x a) h u e =
      let i = assign_rule q g x a h e in
      let k = i.result.env in
      grows_is g (set_gone false k x) h
      (grows_like g (set_gone false k x) u
      (like_then g k (set_gone false k x) (expr_like q [] g a i.result i.is_expr) (like_gone false k x))) i.behind
  stmt_grows q g (store x a) h u e =
      let i = store_rule q g x a h e in
      grows_is g i.result.env h (grows_like g i.result.env u (expr_like q [] g a i.result i.is_expr)) i.behind
  stmt_grows q g (put_s a) h u e =
      let i = put_rule q g a h e in
      grows_is g i.result.env h (grows_like g i.result.env u (expr_like q [] g a i.result i.is_expr)) i.behind
  stmt_grows q g (cond a f1 f2) h u e =
      let i = cond_rule q g a f1 f2 h e in
      let k = i.result.env in
      let either = both (outer k i.yes) (outer k i.no) in
      let lk = expr_like q [] g a i.result i.is_expr in
      let gr = stmts_grows q k f1 i.yes (like_distinct g k lk u) i.is_yes in
      grows_is g either h
      (grows_like g either u (like_then g k either lk
      (like_then k (outer k i.yes) either (outer_like k i.yes gr) (both_like (outer k i.yes) (outer k i.no))))) i.behind
  stmt_grows q g (loop a f1) h u e =
      let i = loop_rule q g a f1 h e in
      grows_is g i.result.env h (grows_like g i.result.env u (expr_like q [] g a i.result i.is_expr)) i.behind
  stmt_grows q g (match_s w x as₁) h u e =
      let i = match_rule q g w x as₁ h e in
      let mm = i.seen in
      let lk = looks_like q g i.var1 w i.var1.ty mm i.is_seen in
      grows_like g h u (like_then g mm.env h lk
      (alts_like q mm.env w mm.loans mm.data1 as₁ h (like_distinct g mm.env lk u) i.behind))
  stmt_grows q g (open_s x a) h u e =
      let i = open_rule q g x a h e in
      let lk = like_gone true g a in
      grows_is g (enter (set_gone true g a) x i.content []) h
      (grows_enter g (set_gone true g a) x i.content [] (grows_like g (set_gone true g a) u lk)
      (fresh_like g (set_gone true g a) x lk (fresh_none g x i.is_fresh))) i.behind
  stmt_grows q g (inside x a) h u e =
      let i = inside_rule q g x a h e in
      let k = goes_env g i.var1 x i.var1.ty h i.behind in
      grows_is g (enter g x k.0 k.1) h (grows_enter g g x k.0 k.1 (grows_like g g u (like_self g)) (fresh_none g x i.is_fresh)) k.2

  pub stmts_grows : (q : Prog) (g : Env) (x : Stmts) (h : Env) → Distinct g → stmts q g x ≡ some h → Grows g h
  stmts_grows q g nil_s h u e = grows_is g g h (grows_like g g u (like_self g)) (some_is e)
  stmts_grows q g (cons_s x xs) h u e =
      let y = if_some_is (stmt q g x) (λ k. stmts q k xs) h e in
      let a = stmt_grows q g x y.0 u y.1 in
      grows_then g y.0 h a (stmts_grows q y.0 xs h a.distinct y.2)

  pub alts_like : (q : Prog) (g : Env) (w : Access) (ls : List Loan) (d : Data) (as₁ : Alts) (h : Env) → Distinct g
      → alts q g w ls d as₁ ≡ some h → EnvLike g h
  alts_like q g w ls d no_alts h u e = subst (EnvLike g) (some_is e) (like_self g)
  alts_like q g w ls d (alt k xs ss as₁) h u e =
      let y = alt_is q g w ls d k xs ss as₁ h e in
      let bg = bind_grows w ls g xs y.0.fields y.1 u y.5 in
      let gr0 : Grows g y.1 = record { newer = bg.0; older = g; is = bg.1; like = like_self g; distinct = bg.2 } in
      let gr = grows_then g y.1 y.2 gr0 (stmts_grows q y.1 ss y.2 bg.2 y.6) in
      let lk = outer_like g y.2 gr in
      subst (EnvLike g) y.8 (choose_like g (is_no_alts as₁) (outer g y.2) (both (outer g y.2) y.3) lk
      (like_then g (outer g y.2) (both (outer g y.2) y.3) lk (both_like (outer g y.2) y.3)))

-- the alternative that's found: what its rule says, and that the names behind all alternatives have at least its flags
pub record AltFound (q : Prog) (g : Env) (w : Access) (ls : List Loan) (d : Data) (k : Lexeme) (xs : List Lexeme) (ss : Stmts)
    (g2 : Env) : Type 0 where
  pub ctor1 : Ctor
  pub inner : Env
  pub behind : Env
  pub named : ctor_named d.ctors k ≡ some ctor1
  pub binds : bind_all w ls g xs ctor1.fields ≡ some inner
  pub runs : stmts q inner ss ≡ some behind
  pub grows : Grows g behind
  pub weaker : Weaker (outer g behind) g2

weak_self : (g : Env) → Weaker g g
weak_self [] = tt
weak_self (v ∷ g) = (refl, refl, refl, (λ z. z), weak_self g)

pub weak_then : (f g h : Env) → Weaker f g → Weaker g h → Weaker f h
weak_then [] [] [] a k = tt
weak_then [] [] (w ∷ h) a k = absurd k
weak_then [] (v ∷ g) h a k = absurd a
weak_then (u ∷ f) [] h a k = absurd a
weak_then (u ∷ f) (v ∷ g) [] a k = absurd k
weak_then (u ∷ f) (v ∷ g) (w ∷ h) a k = (a.0 ∙ k.0, a.1 ∙ k.1, a.2 ∙ k.2, (λ z. k.3 (a.3 z)), weak_then f g h a.4 k.4)

pub alt_found : (q : Prog) (g : Env) (w : Access) (ls : List Loan) (d : Data) (as₁ : Alts) (k : Lexeme) (a : me.Found) (g2 : Env) → Distinct g
    → alts q g w ls d as₁ ≡ some g2 → me.find_alt as₁ k ≡ some a → AltFound q g w ls d k a.names a.does g2
alt_found q g w ls d no_alts k a g2 u e f = absurd (no_some f)
alt_found q g w ls d (alt k1 xs ss as₁) k a g2 u e f = go (same k1 k) (same_is k1 k) f (λ l el fl. alt_found q g w ls d as₁ k a l u el fl)
  where
    y : (kk : Ctor) × (i : Env) × (j : Env) × (l : Env) × (ctor_named d.ctors k1 ≡ some kk) × (bind_all w ls g xs kk.fields ≡ some i)
        × (stmts q i ss ≡ some j) × (alts q g w ls d as₁ ≡ some l) × (choose (is_no_alts as₁) (outer g j) (both (outer g j) l) ≡ g2)
    y = alt_is q g w ls d k1 xs ss as₁ g2 e

    bg : (K : Env) × (y.1 ≡ K ++ g) × Distinct y.1
    bg = bind_grows w ls g xs y.0.fields y.1 u y.5

    gr0 : Grows g y.1
    gr0 = record { newer = bg.0; older = g; is = bg.1; like = like_self g; distinct = bg.2 }

    gr : Grows g y.2
    gr = grows_then g y.1 y.2 gr0 (stmts_grows q y.1 ss y.2 bg.2 y.6)

    left : (z : Bool) → Weaker (outer g y.2) (choose z (outer g y.2) (both (outer g y.2) y.3))
    left true = weak_self (outer g y.2)
    left false = both_left (outer g y.2) y.3

    lk : EnvLike g y.3
    lk = alts_like q g w ls d as₁ y.3 u y.7

    right : (zs : Alts) → (o : Option me.Found) → me.find_alt zs k ≡ o → o ≡ some a
        → Weaker y.3 (choose (is_no_alts zs) (outer g y.2) (both (outer g y.2) y.3))
    right no_alts o fo e1 = absurd (no_some (fo ∙ e1))
    right (alt k2 xs2 ss2 zs) o fo e1 =
        both_right (outer g y.2) y.3 (like_then (outer g y.2) g y.3 (like_sym g (outer g y.2) (outer_like g y.2 gr)) lk)
        (like_distinct g y.3 lk u)

    go : (z : Bool) → (z ≡ true → k1 ≡ k) → choose z (some (record { names = xs; does = ss })) (me.find_alt as₁ k) ≡ some a
        → ((l : Env) → alts q g w ls d as₁ ≡ some l → me.find_alt as₁ k ≡ some a → AltFound q g w ls d k a.names a.does l)
        → AltFound q g w ls d k a.names a.does g2
    go true s e1 r = subst (λ z. AltFound q g w ls d k z.names z.does g2) (some_is e1) (record {
      ctor1 = y.0;
      inner = y.1;
      behind = y.2;
      named = subst (λ z. ctor_named d.ctors z ≡ some y.0) (s refl) y.4;
      binds = y.5;
      runs = y.6;
      grows = gr;
      weaker = subst (Weaker (outer g y.2)) y.8 (left (is_no_alts as₁));
    })
    go false s e1 r = let x = r y.3 y.7 e1 in record {
      ctor1 = x.ctor1;
      inner = x.inner;
      behind = x.behind;
      named = x.named;
      binds = x.binds;
      runs = x.runs;
      grows = x.grows;
      weaker = weak_then (outer g x.behind) y.3 g2 x.weaker (subst (Weaker y.3) y.8 (right as₁ (me.find_alt as₁ k) refl e1));
    }
