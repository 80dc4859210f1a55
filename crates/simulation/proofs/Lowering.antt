-- What stands behind a piece of code is a part of it.
use mathlib.Core.List.{List, [], ◌∷◌}
use mathlib.Core.Option.{Option}
use Prim.Native.Nat.{ℕ, ◌+◌}
use lib.ListN.{length}
use Rattle.language.specs.Base.{Lexeme}
use Rattle.language.specs.Syntax.{Ty, Expr, num, var, op, ctor, boxed, call, share, lend, load, get_e, Exprs, nil_e, cons_e, Access, take, view, edit, Stmt, bind, assign, store, put_s, cond, loop, match_s, open_s, inside, Stmts, nil_s, cons_s, Alts, no_alts, alt, Body, body, Tail, give, give_cond, give_match, Arms, no_arms, arm}
use Rattle.simulation.proofs.Machine.{Kit, Instr, OP, JMP}
pub use Rattle.simulation.specs.Lowering.{Slot, Sc, slot_of, slot_at, Entry, unboxed, inside_ty, part_ty, part_tys, value_code, share_code, share_ty, type_e, code_e, code_es, high_e, high_es, enter, enter_all, after_s, after_ss, code_ends, newest_slots, newer_slots, closes, tag_of, fields_of, part_code, code_parts, code_taken, base_of, alt_scope, code_open, code_s, code_ss, code_alts, code_body, code_tail, code_arms, first_scope, pars_scope, code_fn, Suf, same1, later}

module _ (k : Kit) (fns : Lexeme → Option Entry) where
  pub suf_trans : {is js ks : List Instr} → Suf k fns is js → Suf k fns js ks → Suf k fns is ks
  suf_trans f same1 = f
  suf_trans f (later h) = later (suf_trans f h)

  mutual
    pub suf_e : (e : Expr) (G : List Slot) (h : ℕ) (is : List Instr) → Suf k fns is (code_e k fns G h e is)
    suf_e (num x) G h is = later same1
    suf_e (var x) G h is = later same1
    suf_e (op o d e) G h is = suf_trans (later same1) (suf_trans (suf_e e G (h + 1) (OP h o ∷ is)) (suf_e d G h (code_e k fns G (h + 1) e (OP h o ∷ is))))
    suf_e (ctor c es) G h is = later (suf_es es G (h + 1) is)
    suf_e (boxed e) G h is = suf_trans (later same1) (suf_e e G h _)
    suf_e (call f es) G h is = suf_trans (later same1) (suf_es es G h _)
    suf_e (share x) G h is = later same1
    suf_e (lend x) G h is = later same1
    suf_e (load x) G h is = later same1
    suf_e get_e G h is = later same1

    pub suf_es : (es : Exprs) (G : List Slot) (h : ℕ) (is : List Instr) → Suf k fns is (code_es k fns G h es is)
    suf_es nil_e G h is = same1
    suf_es (cons_e e es) G h is = suf_trans (suf_es es G (h + k.size (type_e k fns G e)) is) (suf_e e G h _)

  pub suf_ends : (G : List Slot) (is : List Instr) → Suf k fns is (code_ends k fns G is)
  suf_ends [] is = same1
  suf_ends (l ∷ G) is = later (suf_ends G is)

  pub suf_parts : (w : Access) (base f h o : ℕ) (ts : List Ty) (is : List Instr) → Suf k fns is (code_parts k fns w base f h o ts is)
  suf_parts w base f h o [] is = same1
  suf_parts w base f h o (t ∷ ts) is = later (later (suf_parts w base f (h + (1 + k.size (part_ty w t))) (o + k.size t) ts is))

  pub suf_open : (C : Sc) (w : Access) (l : Slot) (c : Lexeme) (is : List Instr) → Suf k fns is (code_open k fns C w l c is)
  suf_open C take l c is = later (suf_parts take C.high l.flag (C.high + 1) 1 (fields_of k fns c) is)
  suf_open C view l c is = suf_parts view C.high l.flag (C.high + 1) 1 (fields_of k fns c) is
  suf_open C edit l c is = suf_parts edit C.high l.flag (C.high + 1) 1 (fields_of k fns c) is

  mutual
    pub suf_s : (s : Stmt) (C : Sc) (is : List Instr) → Suf k fns is (code_s k fns C s is)
    suf_s (bind x e) C is = suf_trans (later same1) (suf_e e C.names (C.high + 1) _)
    suf_s (assign x e) C is = suf_trans (later same1) (suf_e e C.names C.high _)
    suf_s (store x e) C is = suf_trans (later same1) (suf_e e C.names C.high _)
    suf_s (put_s e) C is = suf_trans (later same1) (suf_e e C.names C.high _)
    suf_s (cond e a b) C is = suf_trans (suf_trans (suf_trans (suf_ends _ is) (suf_ss b C (closes k fns C b is))) (later (suf_trans (suf_trans (later same1) (suf_ends (newer_slots k fns (after_ss k fns C a).names C.names) (JMP (length is) ∷ code_ss k fns C b (closes k fns C b is)))) (suf_ss a C _)))) (suf_e e C.names C.high _)
    suf_s (loop e a) C is = suf_trans (later (suf_trans (suf_trans (later (later same1)) (suf_ends (newer_slots k fns (after_ss k fns C a).names C.names) _)) (suf_ss a C _))) (suf_e e C.names C.high _)
    suf_s (match_s w x as₁) C is = later (suf_alts as₁ C w (slot_at C.names x) is)
    suf_s (open_s x y) C is = later (later same1)
    suf_s (inside x y) C is = later (later same1)

    pub suf_ss : (ss : Stmts) (C : Sc) (is : List Instr) → Suf k fns is (code_ss k fns C ss is)
    suf_ss nil_s C is = same1
    suf_ss (cons_s s ss) C is = later (suf_trans (suf_ss ss (after_s k fns C s) is) (suf_s s C _))

    pub suf_alts : (as₁ : Alts) (C : Sc) (w : Access) (l : Slot) (is : List Instr) → Suf k fns is (code_alts k fns C w l as₁ is)
    suf_alts no_alts C w l is = later same1
    suf_alts (alt c xs ss as₁) C w l is = suf_trans (suf_alts as₁ C w l is) (later (suf_trans (suf_trans (suf_trans (later same1) (suf_ends _ (JMP (length is) ∷ code_alts k fns C w l as₁ is))) (suf_ss ss (alt_scope k fns C w c xs) _)) (suf_open C w l c _)))

  mutual
    pub suf_body : (d : Body) (D : List Slot) (z : ℕ) (C : Sc) (is : List Instr) → Suf k fns is (code_body k fns D z C d is)
    suf_body (body ss t) D z C is = suf_trans (suf_trans (suf_ends _ is) (suf_tail t z (after_ss k fns C ss) _)) (suf_ss ss C _)

    pub suf_tail : (t : Tail) (z : ℕ) (C : Sc) (is : List Instr) → Suf k fns is (code_tail k fns z C t is)
    suf_tail (give e) z C is = suf_trans (later same1) (suf_e e C.names C.high _)
    suf_tail (give_cond e a b) z C is = suf_trans (later (suf_trans (later (suf_body b C.names z C is)) (suf_body a C.names z C _))) (suf_e e C.names C.high _)
    suf_tail (give_match w x as₁) z C is = later (suf_arms as₁ z C w (slot_at C.names x) is)

    pub suf_arms : (as₁ : Arms) (z : ℕ) (C : Sc) (w : Access) (l : Slot) (is : List Instr) → Suf k fns is (code_arms k fns z C w l as₁ is)
    suf_arms no_arms z C w l is = later same1
    suf_arms (arm c xs d as₁) z C w l is = suf_trans (suf_arms as₁ z C w l is) (later (suf_trans (suf_trans (later same1) (suf_body d C.names z (alt_scope k fns C w c xs) _)) (suf_open C w l c _)))
