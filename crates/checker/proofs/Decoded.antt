-- What's read from the words is what the machine has.
use Rattle.std.proofs.Common.{◌≡◌, ℕ, zero, suc, ◌+◌, ◌-◌, ◌*◌, ◌<◌, ◌≤◌, min, Bool, true, false, not, ◌||◌, List, [], ◌∷◌, ◌++◌, length, get_or, Ok, Err, sym, refl, ap, ◌∙◌, subst, ap₂, append_assoc, arith}
use mathlib.Core.Option.{Option, some, none}
use Rattle.language.specs.Base.{if_some, only_if, some_of, Lexeme}
use Rattle.language.specs.Checks.{Loan}
use Rattle.scope.specs.Log.{Log, Gone, find, entry_at, part, lives, segments}
use Rattle.scope.specs.Loans.{Ent, slice, leaves}
use Rattle.scope.specs.Slots.{Slot, Found, seek, stack, slots_of, Sought}
use Rattle.checker.specs.declared.state.State.{State}
use Rattle.checker.specs.declared.state.Rule.{Rule}
use Rattle.checker.specs.declared.frames.Call.{Call}
use Rattle.scope.proofs.LoanWords.{some_of-++, leaves-++}
use Rattle.checker.specs.declared.frames.Frame.{Frame}
use Rattle.checker.specs.declared.frames.Frame.TheVariants.{Call as ACall}
use Rattle.checker.specs.FrameWords.{frame_at}
use Rattle.checker.specs.Marks.{Mark, k_call, k_then, k_else, k_test, k_loop, k_match, State2, log_of, held2, scope, live}
use Rattle.checker.specs.Machine.{there2}
use Rattle.checker.specs.Stands.{Decls, Lent, Stands, tops, whole, Gap, Gapped, Tops, below, Is, is_call, is_then, is_else, is_test, is_loop, is_match, Framed, no_frame, one_frame}
use Rattle.checker.specs.Held.{held_from, held_in, There}

-- arguments that are there
pub held_step : (text args frames : List ℕ) (n top : ℕ) (f : Frame) → 0 < n → f ≡ frame_at frames (n - 1) → held_in text args frames n top ≡ held_from text args f top (λ t. held_in text args frames (n - 1) t)
held_step text args frames zero top f h e = absurd (omega arith)
held_step text args frames (suc n) top f h e = let z : suc n - 1 ≡ n = omega arith in sym (ap (λ m. held_from text args f top (λ t. held_in text args frames m t)) z ∙ ap (λ f. held_from text args f top (λ t. held_in text args frames n t)) (e ∙ ap (frame_at frames) z))

pub held_is : (d : Decls) (text code args seen ends frames : List ℕ) (n : ℕ) (t : Tops) (ks : List Mark) → Framed d text code args seen ends frames n t ks → held_in text args frames n t.args ≡ held2 ks
held_is d text code args seen ends frames zero t ks no_frame = refl
held_is d text code args seen ends frames (suc n) t ks (one_frame {k = k} {ks = js} i fs) = go (frame_at frames n) k i (held_is d text code args seen ends frames n (below (frame_at frames n) t) js fs)
  where
    go : (f : Frame) (k : Mark) → Is d text code args seen ends t f k js → held_in text args frames n (below f t).args ≡ held2 js → held_from text args f t.args (λ u. held_in text args frames n u) ≡ held2 (k ∷ js)
    go f k (is_call p q r s) ih = ap₂ ◌++◌ r ih
    go f k (is_then p q) ih = refl
    go f k (is_else p) ih = refl
    go f k (is_test p q) ih = refl
    go f k (is_loop p q r s) ih = refl
    go f k (is_match p q r s u v w) ih = refl

-- a log in two parts
pub length_part : (ws : List ℕ) (from n : ℕ) → length (part ws from n) ≡ n
length_part ws from zero = refl
length_part ws from (suc n) = ap suc (length_part ws from n)

length-++ : {A : Type 0} (a b : List A) → length (a ++ b) ≡ length a + length b
length-++ [] b = omega arith
length-++ (x ∷ a) b = let h = length-++ a b in omega arith

-- what lies above a height, and what lies below it
pub part_split : (ws : List ℕ) (a b : Log) (t : ℕ) → part ws 0 t ≡ a ++ b → (part ws (length b) (t - length b) ≡ a) × ((part ws 0 (length b) ≡ b) × (length b ≤ t))
part_split ws [] b t e = let h : length b ≡ t = sym (ap length e) ∙ length_part ws 0 t in let z : t - length b ≡ 0 = omega arith in (ap (part ws (length b)) z, (ap (part ws 0) h ∙ e, omega arith))
part_split ws (x ∷ a) b zero e = absurd (let h = ap length e in omega arith)
part_split ws (x ∷ a) b (suc t) e = let r = part_split ws a b t (tail e) in let q : length b ≤ t = r.1.1 in let z : suc t - length b ≡ suc (t - length b) = omega arith in let y : length b + (t - length b) ≡ t = omega arith in let o : 0 + t ≡ t = omega arith in (ap (part ws (length b)) z ∙ ap₂ (λ i l. entry_at ws i ∷ l) y r.0 ∙ sym (ap (λ i. entry_at ws i ∷ a) o) ∙ ap (λ h. h ∷ a) (head e), (r.1.0, omega arith))
  where
    tail : {y x : Gone} {l m : Log} → y ∷ l ≡ x ∷ m → l ≡ m
    tail e = cc

    head : {y x : Gone} {l m : Log} → y ∷ l ≡ x ∷ m → y ≡ x
    head e = cc

-- past the gaps it's the log as it's now
module _ (ws gs : List ℕ) where
  abbrev pub Lives : List Mark → Type 0
  Lives ks = (g t : ℕ) (x : Log) → part ws 0 t ≡ x ++ whole ks → Gapped gs g ks → lives ws gs g t ≡ x ++ log_of ks

  -- a gap below x: what is left out is a
  gap : (ks : List Mark) (l a : Log) (g t : ℕ) (x : Log) → part ws 0 t ≡ x ++ (a ++ (l ++ whole ks)) → Gap gs g (l ++ whole ks) a → Gapped gs (g - 1) ks → Lives ks → lives ws gs g t ≡ x ++ (l ++ log_of ks)
  gap ks l a zero t x e h k ih = absurd (let p = h.0 in omega arith)
  gap ks l a (suc g) t x e h k ih =
      let z : suc g - 1 ≡ g = omega arith in
      let from : get_or gs (2 * g) 0 ≡ length (l ++ whole ks) = ap (λ i. get_or gs (2 * i) 0) (sym z) ∙ h.1 in
      let to : get_or gs (2 * g + 1) 0 ≡ length (a ++ (l ++ whole ks)) = ap (λ i. get_or gs (2 * i + 1) 0) (sym z) ∙ h.2 in
      let top = part_split ws x (a ++ (l ++ whole ks)) t e in
      let low = part_split ws a (l ++ whole ks) (length (a ++ (l ++ whole ks))) top.1.0 in
      let m : min t (get_or gs (2 * g) 0) ≡ length (l ++ whole ks) = (let p = low.1.1 in let q = top.1.1 in omega arith) in
      ap₂ (λ n b. part ws n (t - n) ++ lives ws gs g b) to m ∙ ap₂ ◌++◌ top.0 (ih g (length (l ++ whole ks)) l low.1.0 (subst (λ i. Gapped gs i ks) z k))

  pub lives_is : (ks : List Mark) → Lives ks
  lives_is [] g t x e k = ap (λ i. lives ws gs i t) k ∙ e
  lives_is (k_call ts u es ∷ ks) g t x e k = lives_is ks g t x e k
  lives_is (k_then vs l ∷ ks) g t x e k = lives_is ks g t (x ++ l) (e ∙ sym (append_assoc x l (whole ks))) k ∙ append_assoc x l (log_of ks)
  lives_is (k_test vs l ∷ ks) g t x e k = lives_is ks g t (x ++ l) (e ∙ sym (append_assoc x l (whole ks))) k ∙ append_assoc x l (log_of ks)
  lives_is (k_loop vs l us m ∷ ks) g t x e k = lives_is ks g t ((x ++ m) ++ l) (e ∙ sym (append_assoc x m (l ++ whole ks)) ∙ sym (append_assoc (x ++ m) l (whole ks))) k ∙ append_assoc (x ++ m) l (log_of ks) ∙ append_assoc x m (l ++ log_of ks)
  lives_is (k_else vs l a ∷ ks) g t x e k = gap ks l a g t x e k.0 k.1 (lives_is ks)
  lives_is (k_match vs l arms q ∷ ks) g t x e k = gap ks l (segments arms) g t x e k.0 k.1 (lives_is ks)

-- asked of the arguments that are there, one call after the other
pub held_yes : (f : Loan → Bool) (text args frames : List ℕ) (n top : ℕ) (c : Call) (b z : Bool) → 0 < n → ACall c ≡ frame_at frames (n - 1) → b ≡ some_of f (leaves (slice text args c.base (top - c.base))) → b ≡ true → some_of f (leaves (held_in text args frames n top)) ≡ z → true ≡ z
held_yes f text args frames n top c b z h e s y q = sym (ap (λ es. some_of f (leaves es)) (held_step text args frames n top (ACall c) h e) ∙ ap (some_of f) (leaves-++ (slice text args c.base (top - c.base)) (held_in text args frames (n - 1) (min top c.base))) ∙ some_of-++ f (leaves (slice text args c.base (top - c.base))) (leaves (held_in text args frames (n - 1) (min top c.base))) ∙ ap (λ b. b || some_of f (leaves (held_in text args frames (n - 1) (min top c.base)))) (sym s ∙ y)) ∙ q

pub held_no : (f : Loan → Bool) (text args frames : List ℕ) (n top : ℕ) (c : Call) (b z : Bool) → 0 < n → ACall c ≡ frame_at frames (n - 1) → b ≡ some_of f (leaves (slice text args c.base (top - c.base))) → b ≡ false → some_of f (leaves (held_in text args frames n top)) ≡ z → some_of f (leaves (held_in text args frames (n - 1) (min top c.base))) ≡ z
held_no f text args frames n top c b z h e s y q = sym (ap (λ es. some_of f (leaves es)) (held_step text args frames n top (ACall c) h e) ∙ ap (some_of f) (leaves-++ (slice text args c.base (top - c.base)) (held_in text args frames (n - 1) (min top c.base))) ∙ some_of-++ f (leaves (slice text args c.base (top - c.base))) (leaves (held_in text args frames (n - 1) (min top c.base))) ∙ ap (λ b. b || some_of f (leaves (held_in text args frames (n - 1) (min top c.base)))) (sym s ∙ y)) ∙ q

-- asked of arguments and names
pub both_lent : (f : Loan → Bool) (a b : List Ent) (x y : Bool) → x ≡ some_of f (leaves a) → y ≡ some_of f (leaves b) → (x || y) ≡ some_of f (leaves (a ++ b))
both_lent f a b x y p q = ap₂ ◌||◌ p q ∙ sym (some_of-++ f (leaves a) (leaves b)) ∙ sym (ap (some_of f) (leaves-++ a b))

pub live_is : (d : Decls) (w : Lent) (h : State) (s : State2) → Stands d w h s → lives w.log w.gaps h.gaps h.log ≡ live s
live_is d w h s st = lives_is w.log w.gaps s.frames h.gaps h.log s.log st.log st.gaps

-- a name that's there, or gone
module _ (d : Decls) (w : Lent) (h : State) (s : State2) (st : Stands d w h s) (x : Lexeme) (k : ℕ) (e : Rule) where
  Names : List Slot
  Names = slots_of w.text w.code w.names w.loans h.names h.loans

  pub there_gone : Sought w.text w.code w.names h.names x k (seek (slots_of w.text w.code w.names w.loans h.names h.loans) x) → true ≡ find (lives w.log w.gaps h.gaps h.log) k → There w.text w.code w.names h.names x (there2 (scope s) (live s) x) (Err e)
  there_gone q g = subst (λ vs. There w.text w.code w.names h.names x (there2 vs (live s) x) (Err e)) st.names (go (seek (slots_of w.text w.code w.names w.loans h.names h.loans) x) q)
    where
      go : (o : Option Found) → Sought w.text w.code w.names h.names x k o → There w.text w.code w.names h.names x (if_some o (λ f. only_if (not (find (live s) (length f.older))) (some f))) (Err e)
      go none q = tt
      go (some f) q = subst (λ b. There w.text w.code w.names h.names x (only_if (not b) (some f)) (Err e)) (g ∙ ap₂ find (live_is d w h s st) (sym q.2)) tt

  pub there_yes : Sought w.text w.code w.names h.names x k (seek (slots_of w.text w.code w.names w.loans h.names h.loans) x) → false ≡ find (lives w.log w.gaps h.gaps h.log) k → There w.text w.code w.names h.names x (there2 (scope s) (live s) x) (Ok (record { 0 = k }))
  there_yes q g = subst (λ vs. There w.text w.code w.names h.names x (there2 vs (live s) x) (Ok (record { 0 = k }))) st.names (go (seek (slots_of w.text w.code w.names w.loans h.names h.loans) x) q)
    where
      go : (o : Option Found) → Sought w.text w.code w.names h.names x k o → There w.text w.code w.names h.names x (if_some o (λ f. only_if (not (find (live s) (length f.older))) (some f))) (Ok (record { 0 = k }))
      go none q = q
      go (some f) q = subst (λ b. There w.text w.code w.names h.names x (only_if (not b) (some f)) (Ok (record { 0 = k }))) (g ∙ ap₂ find (live_is d w h s st) (sym q.2)) q

pub lent_now : (d : Decls) (w : Lent) (h : State) (s : State2) → Stands d w h s → (f : Loan → Bool) (x y b : Bool) → x ≡ b → x ≡ some_of f (leaves (held_in w.text w.args w.frames h.frames h.base)) → y ≡ some_of f (leaves (stack (scope s))) → (b || y) ≡ some_of f (leaves (held2 s.frames ++ stack (scope s)))
lent_now d w h s st f x y b e p q = both_lent f (held2 s.frames) (stack (scope s)) b y (sym e ∙ p ∙ ap (λ es. some_of f (leaves es)) (held_is d w.text w.code w.args w.seen w.ends w.frames h.frames (tops h) s.frames st.frames)) q

pub sought_low : (text code ns : List ℕ) (h : ℕ) (x : Lexeme) (k : ℕ) (o : Option Found) → Sought text code ns h x k o → k < h
sought_low text code ns h x k none q = absurd q
sought_low text code ns h x k (some f) q = q.3
