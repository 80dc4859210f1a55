-- The numbers that a text writes out are below 2^64: by the reader of the text, function by function.
use mathlib.Core.Bool.{Bool, true, false, ◌||◌}
use mathlib.Core.List.{List, [], ◌∷◌, ◌++◌}
use mathlib.Core.Option.{Option, some, none}
use mathlib.Core.Path.{◌≡◌, refl, sym, subst}
use Prim.Native.Nat.{ℕ, zero, suc, ◌+◌}
use lib.Dec.{eqb, ltb, T, ltb→lt}
use Rattle.language.specs.Base.{choose, from_option, if_some, Lexeme, same}
use Rattle.language.specs.Syntax.{Expr, num, op, Exprs, Stmt, bind, assign, store, put_s, open_s, inside, Stmts, Alts, Body, Tail, Arms, Data, Fn}
use Rattle.language.specs.Syntax.{Prog}
use Rattle.language.specs.Text.{Found, found, go_on, expect}
use Rattle.language.specs.Text as tx
use Rattle.soundness.specs.Numbers.{Every, LiteralsE, LiteralsEs, LiteralsS, LiteralsSs, LiteralsAlts, LiteralsBody, LiteralsTail}
use Rattle.soundness.specs.Numbers.{LiteralsArms, Literals, Word}

-- of what is read, if anything is
abbrev Reads : {A : Type 0} → (A → Type 0) → Option (Found A) → Type 0
Reads P none = Unit {0}
Reads P (some f) = P f.what

on_reads : {A C : Type 0} (P : A → Type 0) (R : C → Type 0) (o : Option (Found A)) (f : A → List Lexeme → Option (Found C)) → Reads P o
    → ((a : A) (left : List Lexeme) → P a → Reads R (f a left)) → Reads R (go_on o f)
on_reads P R none f h k = tt
on_reads P R (some x) f h k = k x.what x.behind h

-- behind what holds no number
skip_reads : {A C : Type 0} (R : C → Type 0) (o : Option (Found A)) (f : A → List Lexeme → Option (Found C))
    → ((a : A) (left : List Lexeme) → Reads R (f a left)) → Reads R (go_on o f)
skip_reads R none f k = tt
skip_reads R (some x) f k = k x.what x.behind

expect_reads : {C : Type 0} (R : C → Type 0) (piece : Lexeme) (left : List Lexeme) (f : List Lexeme → Option (Found C))
    → ((rest : List Lexeme) → Reads R (f rest)) → Reads R (expect piece left f)
expect_reads R piece [] f k = tt
expect_reads R piece (x ∷ left) f k = go (same piece x)
  where
    go : (t : Bool) → Reads R (choose t (f left) none)
    go true = k left
    go false = tt

choose_reads : {C : Type 0} (R : C → Type 0) (t : Bool) (x y : Option (Found C)) → Reads R x → Reads R y → Reads R (choose t x y)
choose_reads R true x y h k = h
choose_reads R false x y h k = k

option_reads : {A C : Type 0} (R : C → Type 0) (o : Option A) (y : Option (Found C)) (f : A → Option (Found C)) → Reads R y
    → ((a : A) → Reads R (f a)) → Reads R (from_option o y f)
option_reads R none y f h k = h
option_reads R (some a) y f h k = k a

-- a written number
number_reads : (piece : Lexeme) (left : List Lexeme) → Reads (LiteralsE Word) (if_some (tx.value_of piece) (λ k. found (num k) left))
number_reads piece left = go (tx.decimal 0 piece)
  where
    fits : (k : ℕ) (t : Bool) → ltb k 18446744073709551616 ≡ t → Reads (LiteralsE Word) (if_some (choose t (some k) none) (λ j. found (num j) left))
    fits k true e = ltb→lt k 18446744073709551616 (subst T (sym e) tt)
    fits k false e = tt

    go : (o : Option ℕ) → Reads (LiteralsE Word)
        (if_some (if_some o (λ k. choose (ltb k 18446744073709551616) (some k) none)) (λ k. found (num k) left))
    go none = tt
    go (some k) = fits k (ltb k 18446744073709551616) refl

-- expressions
abbrev E : Expr → Type 0
E = LiteralsE Word

abbrev Es : Exprs → Type 0
Es = LiteralsEs Word

mutual
  value_reads : (u : ℕ) (left : List Lexeme) → Reads E (tx.read_value u left)
  value_reads zero left = tt
  value_reads (suc u) left = on_reads E E (tx.on_level u 2 left) _ (level_reads u 2 left) (λ a left1 ha.
      option_reads E (tx.sign_on 1 (tx.peek left1)) _ _ ha
      (λ o. on_reads E E (tx.on_level u 2 (tx.skip_one left1)) _ (level_reads u 2 (tx.skip_one left1)) (λ d left2 hd. (ha, hd))))

  level_reads : (u l : ℕ) (left : List Lexeme) → Reads E (tx.on_level u l left)
  level_reads zero l left = tt
  level_reads (suc u) l left = choose_reads E (eqb l 4) _ _ (smallest_reads u left)
      (on_reads E E (tx.on_level u (l + 1) left) _ (level_reads u (l + 1) left) (λ a left1 ha. more_reads u l a left1 ha))

  more_reads : (u l : ℕ) (a : Expr) (left : List Lexeme) → E a → Reads E (tx.read_more u l a left)
  more_reads zero l a left ha = tt
  more_reads (suc u) l a left ha = option_reads E (tx.sign_on l (tx.peek left)) _ _ ha (λ o.
      on_reads E E (tx.on_level u (l + 1) (tx.skip_one left)) _ (level_reads u (l + 1) (tx.skip_one left))
      (λ d left1 hd. more_reads u l (op o a d) left1 (ha, hd)))

  smallest_reads : (u : ℕ) (left : List Lexeme) → Reads E (tx.read_smallest u left)
  smallest_reads zero left = tt
  smallest_reads (suc u) [] = tt
  smallest_reads (suc u) (piece ∷ left) =
      choose_reads E (same piece tx.sg_lp) _ _
      (on_reads E E (tx.read_value u left) _ (value_reads u left) (λ a left1 ha. expect_reads E tx.sg_rp left1 _ (λ left2. ha)))
      (choose_reads E (same piece tx.kw_get) _ _ tt
      (choose_reads E (same piece tx.sg_star) _ _ (skip_reads E (tx.read_name tx.is_lower left) _ (λ x left1. tt))
      (choose_reads E (same piece tx.sg_and) _ _
      (choose_reads E (same (tx.peek left) tx.kw_mut) _ _ (skip_reads E (tx.read_name tx.is_lower (tx.skip_one left)) _ (λ x left1. tt))
      (skip_reads E (tx.read_name tx.is_lower left) _ (λ x left1. tt)))
      (choose_reads E (same piece tx.kw_box) _ _ (on_reads E E (tx.read_smallest u left) _ (smallest_reads u left) (λ a left1 ha. ha))
      (choose_reads E (tx.is_number piece) _ _ (number_reads piece left)
      (choose_reads E (tx.is_upper piece) _ _ (choose_reads E (same (tx.peek left) tx.sg_lp) _ _
      (on_reads Es E (tx.read_values u (tx.skip_one left)) _ (values_reads u (tx.skip_one left)) (λ as₁ left1 ha. ha)) tt)
      (choose_reads E (tx.is_lower piece) _ _ (choose_reads E (same (tx.peek left) tx.sg_lp) _ _
      (choose_reads E (same (tx.peek (tx.skip_one left)) tx.sg_rp) _ _ tt
      (on_reads Es E (tx.read_values u (tx.skip_one left)) _ (values_reads u (tx.skip_one left)) (λ as₁ left1 ha. ha))) tt) tt)))))))

  values_reads : (u : ℕ) (left : List Lexeme) → Reads Es (tx.read_values u left)
  values_reads zero left = tt
  values_reads (suc u) left =
      on_reads E Es (tx.read_value u left) _ (value_reads u left) (λ a left1 ha. choose_reads Es (same (tx.peek left1) tx.sg_comma) _ _
      (on_reads Es Es (tx.read_values u (tx.skip_one left1)) _ (values_reads u (tx.skip_one left1)) (λ as₁ left2 hs. (ha, hs)))
      (expect_reads Es tx.sg_rp left1 _ (λ left2. (ha, tt))))

-- statements
abbrev S : Stmt → Type 0
S = LiteralsS Word

abbrev Ss : Stmts → Type 0
Ss = LiteralsSs Word

abbrev As : Alts → Type 0
As = LiteralsAlts Word

closed_reads : {A : Type 0} (R : A → Type 0) (a : A) (left : List Lexeme) → R a → Reads R (tx.closed a left)
closed_reads R a left h = expect_reads R tx.sg_semi left _ (λ left1. h)

let_reads : (u : ℕ) (left : List Lexeme) → Reads S (tx.a_let u left)
let_reads u left = skip_reads S (tx.read_name tx.is_lower left) _ (λ x left1. expect_reads S tx.sg_gets left1 _ (λ left2.
    choose_reads S (same (tx.peek left2) tx.kw_open) _ _
    (skip_reads S (tx.read_name tx.is_lower (tx.skip_one left2)) _ (λ y left3. closed_reads S (open_s x y) left3 tt))
    (choose_reads S (same (tx.peek left2) tx.kw_inside) _ _
    (skip_reads S (tx.read_name tx.is_lower (tx.skip_one left2)) _ (λ y left3. closed_reads S (inside x y) left3 tt))
    (on_reads E S (tx.read_value u left2) _ (value_reads u left2) (λ e left3 he. closed_reads S (bind x e) left3 he)))))

mutual
  stmts_reads : (u : ℕ) (left : List Lexeme) → Reads Ss (tx.read_statements u left)
  stmts_reads zero left = tt
  stmts_reads (suc u) left = choose_reads Ss (same (tx.peek left) tx.sg_rc || same (tx.peek left) tx.kw_give) _ _ tt
      (on_reads S Ss (tx.read_statement u left) _ (stmt_reads u left)
      (λ s left1 hs. on_reads Ss Ss (tx.read_statements u left1) _ (stmts_reads u left1) (λ ss left2 hss. (hs, hss))))

  stmt_reads : (u : ℕ) (left : List Lexeme) → Reads S (tx.read_statement u left)
  stmt_reads zero left = tt
  stmt_reads (suc u) [] = tt
  stmt_reads (suc u) (piece ∷ left) =
      choose_reads S (same piece tx.kw_let) _ _ (let_reads u left)
      (choose_reads S (same piece tx.kw_put) _ _
      (on_reads E S (tx.read_value u left) _ (value_reads u left) (λ e left1 he. closed_reads S (put_s e) left1 he))
      (choose_reads S (same piece tx.sg_star) _ _
      (skip_reads S (tx.read_name tx.is_lower left) _ (λ x left1. expect_reads S tx.sg_gets left1 _ (λ left2.
      on_reads E S (tx.read_value u left2) _ (value_reads u left2) (λ e left3 he. closed_reads S (store x e) left3 he))))
      (choose_reads S (same piece tx.kw_if) _ _
      (on_reads E S (tx.read_value u left) _ (value_reads u left)
      (λ e left1 he. on_reads Ss S (tx.block u left1) _ (block_reads u left1) (λ a left2 ha.
      expect_reads S tx.kw_else left2 _ (λ left3. on_reads Ss S (tx.block u left3) _ (block_reads u left3) (λ d left4 hd. (he, ha, hd))))))
      (choose_reads S (same piece tx.kw_while) _ _
      (on_reads E S (tx.read_value u left) _ (value_reads u left)
      (λ e left1 he. on_reads Ss S (tx.block u left1) _ (block_reads u left1) (λ a left2 ha. (he, ha))))
      (option_reads S (tx.a_way piece) _ _
      (choose_reads S (tx.is_lower piece) _ _ (expect_reads S tx.sg_gets left _
      (λ left1. on_reads E S (tx.read_value u left1) _ (value_reads u left1) (λ e left2 he. closed_reads S (assign piece e) left2 he))) tt)
      (λ w. skip_reads S (tx.read_name tx.is_lower left) _
      (λ x left1. expect_reads S tx.sg_lc left1 _ (λ left2. on_reads As S (tx.alts u left2) _ (alts_reads u left2) (λ as₁ left3 ha. ha)))))))))

  block_reads : (u : ℕ) (left : List Lexeme) → Reads Ss (tx.block u left)
  block_reads zero left = tt
  block_reads (suc u) left =
      expect_reads Ss tx.sg_lc left _ (λ left1. on_reads Ss Ss (tx.read_statements u left1) _ (stmts_reads u left1)
      (λ ss left2 hs. expect_reads Ss tx.sg_rc left2 _ (λ left3. hs)))

  alts_reads : (u : ℕ) (left : List Lexeme) → Reads As (tx.alts u left)
  alts_reads zero left = tt
  alts_reads (suc u) left = choose_reads As (same (tx.peek left) tx.sg_rc) _ _ tt
      (skip_reads As (tx.read_name tx.is_upper left) _ (λ k left1. skip_reads As (tx.some_names u left1) _ (λ xs left2.
      on_reads Ss As (tx.block u left2) _ (block_reads u left2)
      (λ ss left3 hs. on_reads As As (tx.alts u left3) _ (alts_reads u left3) (λ as₁ left4 ha. (hs, ha))))))

-- bodies
abbrev B : Body → Type 0
B = LiteralsBody Word

abbrev G : Tail → Type 0
G = LiteralsTail Word

abbrev Rs : Arms → Type 0
Rs = LiteralsArms Word

mutual
  body_reads : (u : ℕ) (left : List Lexeme) → Reads B (tx.a_body u left)
  body_reads zero left = tt
  body_reads (suc u) left =
      expect_reads B tx.sg_lc left _ (λ left1. on_reads Ss B (tx.read_statements u left1) _ (stmts_reads u left1) (λ ss left2 hs.
      expect_reads B tx.kw_give left2 _ (λ left3. on_reads G B (tx.a_tail u left3) _ (tail_reads u left3)
      (λ t left4 ht. expect_reads B tx.sg_rc left4 _ (λ left5. (hs, ht))))))

  tail_reads : (u : ℕ) (left : List Lexeme) → Reads G (tx.a_tail u left)
  tail_reads zero left = tt
  tail_reads (suc u) left = choose_reads G (same (tx.peek left) tx.kw_if) _ _
      (on_reads E G (tx.read_value u (tx.skip_one left)) _ (value_reads u (tx.skip_one left))
      (λ e left1 he. on_reads B G (tx.a_body u left1) _ (body_reads u left1) (λ a left2 ha.
      expect_reads G tx.kw_else left2 _ (λ left3. on_reads B G (tx.a_body u left3) _ (body_reads u left3) (λ d left4 hd. (he, ha, hd))))))
      (option_reads G (tx.a_way (tx.peek left)) _ _ (on_reads E G (tx.read_value u left) _ (value_reads u left) (λ e left1 he. he))
      (λ w. skip_reads G (tx.read_name tx.is_lower (tx.skip_one left)) _
      (λ x left1. expect_reads G tx.sg_lc left1 _ (λ left2. on_reads Rs G (tx.arms u left2) _ (arms_reads u left2) (λ as₁ left3 ha. ha)))))

  arms_reads : (u : ℕ) (left : List Lexeme) → Reads Rs (tx.arms u left)
  arms_reads zero left = tt
  arms_reads (suc u) left = choose_reads Rs (same (tx.peek left) tx.sg_rc) _ _ tt
      (skip_reads Rs (tx.read_name tx.is_upper left) _ (λ k left1. skip_reads Rs (tx.some_names u left1) _ (λ xs left2.
      on_reads B Rs (tx.a_body u left2) _ (body_reads u left2)
      (λ d left3 hd. on_reads Rs Rs (tx.arms u left3) _ (arms_reads u left3) (λ as₁ left4 ha. (hd, ha))))))

-- items: what is read is a program, with nothing behind it
abbrev Whole : Option Prog → Type 0
Whole none = Unit {0}
Whole (some q) = Literals Word q

on_whole : {A : Type 0} (P : A → Type 0) (o : Option (Found A)) (f : A → List Lexeme → Option Prog) → Reads P o
    → ((a : A) (left : List Lexeme) → P a → Whole (f a left)) → Whole (go_on o f)
on_whole P none f h k = tt
on_whole P (some x) f h k = k x.what x.behind h

skip_whole : {A : Type 0} (o : Option (Found A)) (f : A → List Lexeme → Option Prog) → ((a : A) (left : List Lexeme) → Whole (f a left))
    → Whole (go_on o f)
skip_whole none f k = tt
skip_whole (some x) f k = k x.what x.behind

expect_whole : (piece : Lexeme) (left : List Lexeme) (f : List Lexeme → Option Prog) → ((rest : List Lexeme) → Whole (f rest))
    → Whole (expect piece left f)
expect_whole piece [] f k = tt
expect_whole piece (x ∷ left) f k = go (same piece x)
  where
    go : (t : Bool) → Whole (choose t (f left) none)
    go true = k left
    go false = tt

choose_whole : (t : Bool) (x y : Option Prog) → Whole x → Whole y → Whole (choose t x y)
choose_whole true x y h k = h
choose_whole false x y h k = k

abbrev OfFn : Fn → Type 0
OfFn f = B f.does

every_snoc : (fs : List Fn) (f : Fn) → Every OfFn fs → OfFn f → Every OfFn (fs ++ (f ∷ []))
every_snoc [] f h k = (k, tt)
every_snoc (x ∷ fs) f h k = (h.0, every_snoc fs f h.1 k)

items_read : (u : ℕ) (left : List Lexeme) (ds : List Data) (fs : List Fn) → Every OfFn fs → Whole (tx.read_items u left ds fs)
items_read zero left ds fs h = tt
items_read (suc u) [] ds fs h = h
items_read (suc u) (piece ∷ left) ds fs h =
    choose_whole (same piece tx.kw_data) _ _ (skip_whole (tx.read_name tx.is_lower left) _ (λ x left1. expect_whole tx.sg_gets left1 _ (λ left2.
    skip_whole (tx.ctors u left2) _ (λ ks left3. skip_whole
    (choose (same (tx.peek left3) tx.kw_drop) (tx.read_name tx.is_lower (tx.skip_one left3)) (found [] left3)) _ (λ f left4.
    expect_whole tx.sg_semi left4 _ (λ left5. items_read u left5 _ fs h))))))
    (choose_whole (same piece tx.kw_fn) _ _ (skip_whole (tx.read_name tx.is_lower left) _ (λ x left1. expect_whole tx.sg_lp left1 _ (λ left2.
    skip_whole (tx.read_pars u left2) _ (λ ps left3. expect_whole tx.sg_colon left3 _ (λ left4. skip_whole (tx.read_type u left4) _ (λ t left5.
    on_whole B (tx.a_body u left5) _ (body_reads u left5)
    (λ d left6 hd. items_read u left6 ds _ (every_snoc fs (record { name = x; pars = ps; ret = t; does = d }) h hd)))))))) tt)

pub text_literals : (text : List ℕ) (q : Prog) → tx.reads text ≡ some q → Literals Word q
text_literals text q e = subst Whole e (items_read _ (tx.tokenize tx.idle text) [] [] tt)
