-- From trees to instructions, with static offsets.
use Rattle.std.specs.Prelude.{List, [], ◌∷◌, ℕ, zero, suc, ◌+◌, ◌-◌, max, length}
use Rattle.std.proofs.Math.Option.{Option, some, none}
use Rattle.language.specs.Base.{Lexeme, choose, from_option, same}
use Rattle.language.specs.Syntax.{Ty, int, dat, box, ref, mut, Expr, num, var, op, ctor, boxed, call, share, lend, load, get_e, Exprs, nil_e, cons_e, Access, take, view, edit, Stmt, bind, assign, store, put_s, cond, loop, match_s, open_s, inside, Stmts, nil_s, cons_s, Alts, no_alts, alt, Body, body, Tail, give, give_cond, give_match, Arms, no_arms, arm, Fn}
use Rattle.language.specs.Checks.{types_of_pars}
use Rattle.language.specs.Meaning.{names_of}
use Rattle.simulation.specs.Machine.{Kit, Instr, NUM, COPY, MOVE, OP, BOX, ADDR, LOAD, GET, TURN, ASSIGN, STORE, PADDR, PART, JTAG, OPEN, PUT, JZ, JMP, END, CALL, RESULT, RETURN, STUCK}

-- a name in scope: its flag's offset; its words lie behind
pub record Slot : Type 0 where
  pub name : Lexeme
  pub ty : Ty
  pub flag : ℕ

-- names, and how many words of the frame are in use
pub record Sc : Type 0 where
  pub names : List Slot
  pub high : ℕ

abbrev pub slot_of : List Slot → Lexeme → Option Slot
slot_of [] x = none
slot_of (l ∷ G) x = choose (same l.name x) (some l) (slot_of G x)

abbrev pub slot_at : List Slot → Lexeme → Slot
slot_at G x = from_option (slot_of G x) (record { name = x; ty = int; flag = 0 }) (λ l. l)

-- a function's parameters, and what it gives
pub record Entry : Type 0 where
  pub pars : List Ty
  pub ret : Ty

-- what's in a box; and through a reference to a box
abbrev pub unboxed : Ty → Ty
unboxed int = int
unboxed (dat d) = int
unboxed (box t) = t
unboxed (ref t) = int
unboxed (mut t) = int

abbrev pub inside_ty : Ty → Ty
inside_ty int = int
inside_ty (dat d) = int
inside_ty (box t) = int
inside_ty (ref t) = ref (unboxed t)
inside_ty (mut t) = mut (unboxed t)

-- a part's type, by how it is matched
abbrev pub part_ty : Access → Ty → Ty
part_ty take t = t
part_ty view t = ref t
part_ty edit t = mut t

abbrev pub part_tys : Access → List Ty → List Ty
part_tys w [] = []
part_tys w (t ∷ ts) = part_ty w t ∷ part_tys w ts

-- one word, copied; or moved
abbrev pub value_code : Kit → ℕ → Slot → Ty → Instr
value_code k h l int = COPY h l.flag
value_code k h l (dat d) = MOVE h l.flag (k.size (dat d))
value_code k h l (box t) = MOVE h l.flag (k.size (box t))
value_code k h l (ref t) = COPY h l.flag
value_code k h l (mut t) = COPY h l.flag

abbrev pub share_code : ℕ → Slot → Ty → Instr
share_code h l int = ADDR h l.flag
share_code h l (dat d) = ADDR h l.flag
share_code h l (box t) = ADDR h l.flag
share_code h l (ref t) = COPY h l.flag
share_code h l (mut t) = COPY h l.flag

abbrev pub share_ty : Ty → Ty
share_ty int = ref int
share_ty (dat d) = ref (dat d)
share_ty (box t) = ref (box t)
share_ty (ref t) = ref t
share_ty (mut t) = ref t

module _ (k : Kit) (fns : Lexeme → Option Entry) where
  abbrev pub type_e : List Slot → Expr → Ty
  type_e G (num x) = int
  type_e G (var x) = from_option (slot_of G x) int (λ l. l.ty)
  type_e G (op o d e) = int
  type_e G (ctor c es) = from_option (k.info c) int (λ i. dat i.home)
  type_e G (boxed e) = box (type_e G e)
  type_e G (call f es) = from_option (fns f) int (λ y. y.ret)
  type_e G (share x) = from_option (slot_of G x) int (λ l. share_ty l.ty)
  type_e G (lend x) = from_option (slot_of G x) int (λ l. mut l.ty)
  type_e G (load x) = int
  type_e G get_e = int

  abbrev mutual
    pub code_e : List Slot → ℕ → Expr → List Instr → List Instr
    code_e G h (num x) is = NUM h x ∷ is
    code_e G h (var x) is = from_option (slot_of G x) STUCK (λ l. value_code k h l l.ty) ∷ is
    code_e G h (op o d e) is = code_e G h d (code_e G (h + 1) e (OP h o ∷ is))
    code_e G h (ctor c es) is = from_option (k.info c) STUCK (λ i. NUM h i.tag) ∷ code_es G (h + 1) es is
    code_e G h (boxed e) is = code_e G h e (BOX h (k.size (type_e G e)) ∷ is)
    code_e G h (call f es) is = code_es G h es (from_option (fns f) STUCK (λ y. CALL h f y.pars (k.size y.ret)) ∷ is)
    code_e G h (share x) is = from_option (slot_of G x) STUCK (λ l. share_code h l l.ty) ∷ is
    code_e G h (lend x) is = from_option (slot_of G x) STUCK (λ l. ADDR h l.flag) ∷ is
    code_e G h (load x) is = from_option (slot_of G x) STUCK (λ l. LOAD h l.flag) ∷ is
    code_e G h get_e is = GET h ∷ is

    pub code_es : List Slot → ℕ → Exprs → List Instr → List Instr
    code_es G h nil_e is = is
    code_es G h (cons_e e es) is = code_e G h e (code_es G (h + k.size (type_e G e)) es is)

  -- words that working out takes, from where it begins
  abbrev mutual
    pub high_e : List Slot → Expr → ℕ
    high_e G (num x) = 1
    high_e G (var x) = k.size (type_e G (var x))
    high_e G (op o d e) = max (high_e G d) (1 + high_e G e)
    high_e G (ctor c es) = max (k.size (type_e G (ctor c es))) (1 + high_es G es)
    high_e G (boxed e) = high_e G e
    high_e G (call f es) = max (k.size (type_e G (call f es))) (high_es G es)
    high_e G (share x) = 1
    high_e G (lend x) = 1
    high_e G (load x) = 1
    high_e G get_e = 1

    pub high_es : List Slot → Exprs → ℕ
    high_es G nil_e = 0
    high_es G (cons_e e es) = max (high_e G e) (k.size (type_e G e) + high_es G es)

  abbrev pub enter : Sc → Lexeme → Ty → Sc
  enter C x t = record { names = record { name = x; ty = t; flag = C.high } ∷ C.names; high = C.high + (1 + k.size t) }

  abbrev pub enter_all : Sc → List Lexeme → List Ty → Sc
  enter_all C [] ts = C
  enter_all C (x ∷ xs) [] = C
  enter_all C (x ∷ xs) (t ∷ ts) = enter_all (enter C x t) xs ts

  abbrev pub after_s : Sc → Stmt → Sc
  after_s C (bind x e) = enter C x (type_e C.names e)
  after_s C (assign x e) = C
  after_s C (store x e) = C
  after_s C (put_s e) = C
  after_s C (cond e a b) = C
  after_s C (loop e a) = C
  after_s C (match_s w x as₁) = C
  after_s C (open_s x y) = enter C x (unboxed (slot_at C.names y).ty)
  after_s C (inside x y) = enter C x (inside_ty (slot_at C.names y).ty)

  abbrev pub after_ss : Sc → Stmts → Sc
  after_ss C nil_s = C
  after_ss C (cons_s s ss) = after_ss (after_s C s) ss

  abbrev pub code_ends : List Slot → List Instr → List Instr
  code_ends [] is = is
  code_ends (l ∷ G) is = END l.flag l.ty ∷ code_ends G is

  abbrev pub newest_slots : ℕ → List Slot → List Slot
  newest_slots zero G = []
  newest_slots (suc j) [] = []
  newest_slots (suc j) (l ∷ G) = l ∷ newest_slots j G

  -- the names of C that aren't in D
  abbrev pub newer_slots : List Slot → List Slot → List Slot
  newer_slots G D = newest_slots (length G - length D) G

  -- the names that statements made end behind them
  abbrev pub closes : Sc → Stmts → List Instr → List Instr
  closes C ss is = code_ends (newer_slots (after_ss C ss).names C.names) is

  abbrev pub tag_of : Lexeme → ℕ
  tag_of c = from_option (k.info c) 0 (λ i. i.tag)

  abbrev pub fields_of : Lexeme → List Ty
  fields_of c = from_option (k.info c) [] (λ i. i.fields)

  -- a part to h + 1: moved out of the name whose flag is at f, or its address from the word at base
  abbrev pub part_code : Access → ℕ → ℕ → ℕ → ℕ → ℕ → Instr
  part_code take base f h o z = PART (h + 1) f o z
  part_code view base f h o z = PADDR (h + 1) base o
  part_code edit base f h o z = PADDR (h + 1) base o

  abbrev pub code_parts : Access → ℕ → ℕ → ℕ → ℕ → List Ty → List Instr → List Instr
  code_parts w base f h o [] is = is
  code_parts w base f h o (t ∷ ts) is = part_code w base f h o (k.size t) ∷ NUM h 1 ∷ code_parts w base f (h + (1 + k.size (part_ty w t))) (o + k.size t) ts is

  -- what is taken apart is no longer there
  abbrev pub code_taken : Access → ℕ → List Instr → List Instr
  code_taken take f is = NUM f 0 ∷ is
  code_taken view f is = is
  code_taken edit f is = is

  abbrev pub base_of : Sc → Sc
  base_of C = record { names = C.names; high = C.high + 1 }

  abbrev pub alt_scope : Sc → Access → Lexeme → List Lexeme → Sc
  alt_scope C w c xs = enter_all (base_of C) xs (part_tys w (fields_of c))

  -- what an alternative does before its statements
  abbrev pub code_open : Sc → Access → Slot → Lexeme → List Instr → List Instr
  code_open C w l c is = code_taken w l.flag (code_parts w C.high l.flag (C.high + 1) 1 (fields_of c) is)

  abbrev mutual
    pub code_s : Sc → Stmt → List Instr → List Instr
    code_s C (bind x e) is = code_e C.names (C.high + 1) e (NUM C.high 1 ∷ is)
    code_s C (assign x e) is = code_e C.names C.high e (from_option (slot_of C.names x) STUCK (λ l. ASSIGN l.flag C.high l.ty) ∷ is)
    code_s C (store x e) is = code_e C.names C.high e (from_option (slot_of C.names x) STUCK (λ l. STORE l.flag C.high (type_e C.names e)) ∷ is)
    code_s C (put_s e) is = code_e C.names C.high e (PUT C.high ∷ is)
    code_s C (cond e a b) is = code_e C.names C.high e (JZ C.high (length (code_ss C b (closes C b is))) ∷ code_ss C a (closes C a (JMP (length is) ∷ code_ss C b (closes C b is))))
    code_s C (loop e a) is = code_e C.names C.high e (JZ C.high (length is) ∷ code_ss C a (closes C a (TURN ∷ JMP (length (code_e C.names C.high e (STUCK ∷ code_ss C a (closes C a (STUCK ∷ STUCK ∷ is))))) ∷ is)))
    code_s C (match_s w x as₁) is = share_code C.high (slot_at C.names x) (slot_at C.names x).ty ∷ code_alts C w (slot_at C.names x) as₁ is
    code_s C (open_s x y) is = OPEN (C.high + 1) (slot_at C.names y).flag (k.size (unboxed (slot_at C.names y).ty)) ∷ NUM C.high 1 ∷ is
    code_s C (inside x y) is = LOAD (C.high + 1) (slot_at C.names y).flag ∷ NUM C.high 1 ∷ is

    pub code_ss : Sc → Stmts → List Instr → List Instr
    code_ss C nil_s is = is
    code_ss C (cons_s s ss) is = TURN ∷ code_s C s (code_ss (after_s C s) ss is)

    pub code_alts : Sc → Access → Slot → Alts → List Instr → List Instr
    code_alts C w l no_alts is = STUCK ∷ is
    code_alts C w l (alt c xs ss as₁) is = JTAG C.high (tag_of c) (length (code_alts C w l as₁ is)) ∷ code_open C w l c (code_ss (alt_scope C w c xs) ss (code_ends (newer_slots (after_ss (alt_scope C w c xs) ss).names C.names) (JMP (length is) ∷ code_alts C w l as₁ is)))

  -- bodies: what is given goes to the result area; then the names newer than those of D end
  abbrev mutual
    pub code_body : List Slot → ℕ → Sc → Body → List Instr → List Instr
    code_body D z C (body ss t) is = code_ss C ss (code_tail z (after_ss C ss) t (code_ends (newer_slots (after_ss C ss).names D) is))

    pub code_tail : ℕ → Sc → Tail → List Instr → List Instr
    code_tail z C (give e) is = code_e C.names C.high e (RESULT C.high z ∷ is)
    code_tail z C (give_cond e a b) is = code_e C.names C.high e (JZ C.high (length (code_body C.names z C b is)) ∷ code_body C.names z C a (JMP (length is) ∷ code_body C.names z C b is))
    code_tail z C (give_match w x as₁) is = share_code C.high (slot_at C.names x) (slot_at C.names x).ty ∷ code_arms z C w (slot_at C.names x) as₁ is

    pub code_arms : ℕ → Sc → Access → Slot → Arms → List Instr → List Instr
    code_arms z C w l no_arms is = STUCK ∷ is
    code_arms z C w l (arm c xs d as₁) is = JTAG C.high (tag_of c) (length (code_arms z C w l as₁ is)) ∷ code_open C w l c (code_body C.names z (alt_scope C w c xs) d (JMP (length is) ∷ code_arms z C w l as₁ is))

  -- a function: its parameters lie behind the header and the result area
  abbrev pub first_scope : ℕ → Sc
  first_scope z = record { names = []; high = 8 + z }

  abbrev pub pars_scope : Fn → Sc
  pars_scope f = enter_all (first_scope (k.size f.ret)) (names_of f.pars) (types_of_pars f.pars)

  abbrev pub code_fn : Fn → List Instr → List Instr
  code_fn f is = code_body [] (k.size f.ret) (pars_scope f) f.does (RETURN (k.size f.ret) ∷ is)

  -- what stands behind is a part of the code
  pub data Suf (is : List Instr) : List Instr → Type 0 where
    same1 : Suf is is
    later : {i : Instr} {js : List Instr} → Suf is js → Suf is (i ∷ js)
