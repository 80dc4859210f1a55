-- Scopes and names, one upon the other; jumps; how long code is.
use mathlib.Core.Path.{◌≡◌, refl, ap, subst, ◌∙◌}
use mathlib.Core.List.{List, [], ◌∷◌, ◌++◌}
use mathlib.Core.Option.{Option}
use Prim.Native.Nat.{ℕ, zero, suc, ◌+◌, ◌-◌, ◌≤◌}
use native.Mathlib.Omega.{arith}
use lib.ListN.{length, drop}
use Rattle.language.specs.Base.{Lexeme}
use Rattle.language.specs.Syntax.{Ty, Expr, num, var, op, ctor, boxed, call, share, lend, load, get_e, Exprs, nil_e, cons_e, Access, take, view, edit, Stmt, bind, assign, store, put_s, cond, loop, match_s, open_s, inside, Stmts, nil_s, cons_s, Alts, no_alts, alt}
use Rattle.language.specs.Meaning.{Env, newer}
use Rattle.simulation.proofs.Machine.{Kit, Instr, from_end}
use Rattle.simulation.proofs.Lowering.{Slot, Sc, slot_at, Entry, type_e, code_e, code_es, after_s, after_ss, code_ends, newest_slots, newer_slots, part_ty, code_parts, code_open, fields_of, alt_scope, code_s, code_ss, code_alts, Suf, same1, later}
use Rattle.simulation.proofs.Memory.{Pl}
use Rattle.simulation.proofs.Relation.{Names, no_names, one_name}
use Rattle.simulation.specs.Borrows.{env_roots}

-- names one upon the other, from lo up to hi
abbrev pub Stack : Kit → ℕ → List Slot → ℕ → Type 0
Stack K lo [] hi = lo ≡ hi
Stack K lo (l ∷ ls) hi = (hi ≡ l.flag + (1 + K.size l.ty)) × Stack K lo ls l.flag

pub stack_on : (K : Kit) (ks ls : List Slot) (lo mid hi : ℕ) → Stack K lo ls mid → Stack K mid ks hi → Stack K lo (ks ++ ls) hi
stack_on K [] ls lo mid hi f e = subst (λ z. Stack K lo ls z) e f
stack_on K (k ∷ ks) ls lo mid hi f e = (e.0, stack_on K ks ls lo mid k.flag f e.1)

pub stack_le : (K : Kit) (ls : List Slot) (lo hi : ℕ) → Stack K lo ls hi → lo ≤ hi
stack_le K [] lo hi e = omega arith
stack_le K (l ∷ ls) lo hi e = let z = stack_le K ls lo l.flag e.1 in let y = e.0 in omega arith

pub names_on : {L : List Pl} {fb : ℕ} {G D : List Slot} {g d : Env} → Names L fb G g → Names L fb D d → Names L fb (G ++ D) (g ++ d)
names_on no_names ms = ms
names_on (one_name e h ns) ms = one_name e h (names_on ns ms)

pub names_length : {L : List Pl} {fb : ℕ} {G : List Slot} {g : Env} → Names L fb G g → length G ≡ length g
names_length no_names = refl
names_length (one_name e h ns) = ap suc (names_length ns)

pub length_on : {A : Type 0} (xs ys : List A) → length (xs ++ ys) ≡ length xs + length ys
length_on [] ys = omega arith
length_on (x ∷ xs) ys = let h = length_on xs ys in omega arith

abbrev newest2 : ℕ → Env → Env
newest2 zero g1 = []
newest2 (suc k) [] = []
newest2 (suc k) (m ∷ ms) = m ∷ newest2 k ms

pub newer_on : (ks g : Env) → newer (ks ++ g) g ≡ ks
newer_on ks g = ap (λ j. newest2 j (ks ++ g)) (let h = length_on ks g in let z : length (ks ++ g) - length g ≡ length ks = omega arith in z) ∙ all_of ks g
  where
    all_of : (ls G : Env) → newest2 (length ls) (ls ++ G) ≡ ls
    all_of [] G = refl
    all_of (l ∷ ls) G = ap (λ z. l ∷ z) (all_of ls G)

pub newer_slots_on : (K : Kit) (fns : Lexeme → Option Entry) (ls G : List Slot) → newer_slots K fns (ls ++ G) G ≡ ls
newer_slots_on K fns ls G = ap (λ j. newest_slots K fns j (ls ++ G)) (let h = length_on ls G in omega arith) ∙ all_of ls G
  where
    all_of : (ls G : List Slot) → newest_slots K fns (length ls) (ls ++ G) ≡ ls
    all_of [] G = refl
    all_of (l ∷ ls) G = ap (λ z. l ∷ z) (all_of ls G)

-- jumps
suf_length : {K : Kit} {fns : Lexeme → Option Entry} {is js : List Instr} → Suf K fns is js → length is ≤ length js
suf_length same1 = omega arith
suf_length (later h) = let z = suf_length h in omega arith

pub jump : {K : Kit} {fns : Lexeme → Option Entry} {is code : List Instr} → Suf K fns is code → from_end code (length is) ≡ is
jump {is = is} same1 = ap (λ z. drop z is) (let z : length is - length is ≡ 0 = omega arith in z)
jump {is = is} (later {i = i} {js = js} h) = let z = suf_length h in ap (λ j. drop j (i ∷ js)) (let y : suc (length js) - length is ≡ suc (length js - length is) = omega arith in y) ∙ jump h

-- how long code is doesn't hang on what's behind
module _ (K : Kit) (fns : Lexeme → Option Entry) where
  mutual
    pub len_e : (e : Expr) (G : List Slot) (h : ℕ) (is js : List Instr) → length is ≡ length js → length (code_e K fns G h e is) ≡ length (code_e K fns G h e js)
    len_e (num x) G h is js e = ap suc e
    len_e (var x) G h is js e = ap suc e
    len_e (op o d f) G h is js e = len_e d G h _ _ (len_e f G (h + 1) _ _ (ap suc e))
    len_e (ctor k es) G h is js e = ap suc (len_es es G (h + 1) is js e)
    len_e (boxed f) G h is js e = len_e f G h _ _ (ap suc e)
    len_e (call f es) G h is js e = len_es es G h _ _ (ap suc e)
    len_e (share x) G h is js e = ap suc e
    len_e (lend x) G h is js e = ap suc e
    len_e (load x) G h is js e = ap suc e
    len_e get_e G h is js e = ap suc e

    pub len_es : (es : Exprs) (G : List Slot) (h : ℕ) (is js : List Instr) → length is ≡ length js → length (code_es K fns G h es is) ≡ length (code_es K fns G h es js)
    len_es nil_e G h is js e = e
    len_es (cons_e f es) G h is js e = len_e f G h _ _ (len_es es G (h + K.size (type_e K fns G f)) is js e)

  pub len_ends : (G : List Slot) (is js : List Instr) → length is ≡ length js → length (code_ends K fns G is) ≡ length (code_ends K fns G js)
  len_ends [] is js e = e
  len_ends (l ∷ G) is js e = ap suc (len_ends G is js e)

  pub len_parts : (w : Access) (base f h o : ℕ) (ts : List Ty) (is js : List Instr) → length is ≡ length js → length (code_parts K fns w base f h o ts is) ≡ length (code_parts K fns w base f h o ts js)
  len_parts w base f h o [] is js e = e
  len_parts w base f h o (t ∷ ts) is js e = ap suc (ap suc (len_parts w base f (h + (1 + K.size (part_ty w t))) (o + K.size t) ts is js e))

  pub len_open : (C : Sc) (w : Access) (l : Slot) (c : Lexeme) (is js : List Instr) → length is ≡ length js → length (code_open K fns C w l c is) ≡ length (code_open K fns C w l c js)
  len_open C take l c is js e = ap suc (len_parts take C.high l.flag (C.high + 1) 1 (fields_of K fns c) is js e)
  len_open C view l c is js e = len_parts view C.high l.flag (C.high + 1) 1 (fields_of K fns c) is js e
  len_open C edit l c is js e = len_parts edit C.high l.flag (C.high + 1) 1 (fields_of K fns c) is js e

  mutual
    pub len_s : (x : Stmt) (C : Sc) (is js : List Instr) → length is ≡ length js → length (code_s K fns C x is) ≡ length (code_s K fns C x js)
    len_s (bind x f) C is js e = len_e f C.names (C.high + 1) _ _ (ap suc e)
    len_s (assign x f) C is js e = len_e f C.names C.high _ _ (ap suc e)
    len_s (store x f) C is js e = len_e f C.names C.high _ _ (ap suc e)
    len_s (put_s f) C is js e = len_e f C.names C.high _ _ (ap suc e)
    len_s (cond f x y) C is js e = len_e f C.names C.high _ _ (ap suc (len_ss x C _ _ (len_ends (newer_slots K fns (after_ss K fns C x).names C.names) _ _ (ap suc (len_ss y C _ _ (len_ends (newer_slots K fns (after_ss K fns C y).names C.names) is js e))))))
    len_s (loop f x) C is js e = len_e f C.names C.high _ _ (ap suc (len_ss x C _ _ (len_ends (newer_slots K fns (after_ss K fns C x).names C.names) _ _ (ap suc (ap suc e)))))
    len_s (match_s w x as₁) C is js e = ap suc (len_alts as₁ C w (slot_at C.names x) is js e)
    len_s (open_s x y) C is js e = ap suc (ap suc e)
    len_s (inside x y) C is js e = ap suc (ap suc e)

    pub len_ss : (xs : Stmts) (C : Sc) (is js : List Instr) → length is ≡ length js → length (code_ss K fns C xs is) ≡ length (code_ss K fns C xs js)
    len_ss nil_s C is js e = e
    len_ss (cons_s x xs) C is js e = ap suc (len_s x C _ _ (len_ss xs (after_s K fns C x) is js e))

    pub len_alts : (as₁ : Alts) (C : Sc) (w : Access) (l : Slot) (is js : List Instr) → length is ≡ length js → length (code_alts K fns C w l as₁ is) ≡ length (code_alts K fns C w l as₁ js)
    len_alts no_alts C w l is js e = ap suc e
    len_alts (alt c xs ss as₁) C w l is js e = ap suc (len_open C w l c _ _ (len_ss ss (alt_scope K fns C w c xs) _ _ (len_ends (newer_slots K fns (after_ss K fns (alt_scope K fns C w c xs) ss).names C.names) _ _ (ap suc (len_alts as₁ C w l is js e)))))

pub roots_on : (ks g : Env) → env_roots (ks ++ g) ≡ env_roots ks ++ env_roots g
roots_on [] g = refl
roots_on (k ∷ ks) g = ap (λ (z : List ℕ). k.root ∷ z) (roots_on ks g)
