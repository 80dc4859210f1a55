-- What's written above a stack's height is no matter to the frames below.
use Rattle.std.proofs.Common.{◌≡◌, ℕ, zero, suc, ◌+◌, ◌-◌, ◌<◌, ◌≤◌, List, ◌∙◌, arith}
use Rattle.scope.specs.Loans.{slice}
use Rattle.checker.specs.declared.frames.Frame.{Frame}
use Rattle.checker.specs.declared.frames.Frame.TheVariants.{Call as ACall, Then, Else, Test, Loop, Match as AMatch}
use Rattle.checker.specs.FrameWords.{frame_at}
use Rattle.checker.specs.Marks.{Mark}
use Rattle.checker.specs.Stands.{Decls, Tops, below, Is, is_call, is_then, is_else, is_test, is_loop, is_match, Framed, no_frame, one_frame}

pub below_args : (f : Frame) (t : Tops) (b : ℕ) → t.args ≤ b → (below f t).args ≤ b
below_args (ACall c) t b h = omega arith
below_args (Then x y) t b h = h
below_args (Else x) t b h = h
below_args (Test x y) t b h = h
below_args (Loop x y z u) t b h = h
below_args (AMatch m) t b h = h

-- entries of arguments
module _ (d : Decls) (text code args args' seen ends frames : List ℕ) (b : ℕ) (same : (from n : ℕ) → from + n ≤ b → slice text args' from n ≡ slice text args from n) where
  is_args : (t : Tops) (f : Frame) (k : Mark) (ks : List Mark) → t.args ≤ b → Is d text code args seen ends t f k ks → Is d text code args' seen ends t f k ks
  is_args t f k ks h (is_call {c = c} p q r s) = is_call p q (same c.base (t.args - c.base) (omega arith) ∙ r) s
  is_args t f k ks h (is_then p q) = is_then p q
  is_args t f k ks h (is_else p) = is_else p
  is_args t f k ks h (is_test p q) = is_test p q
  is_args t f k ks h (is_loop p q r s) = is_loop p q r s
  is_args t f k ks h (is_match p q r s u v w) = is_match p q r s u v w

  pub framed_args : (n : ℕ) (t : Tops) (ks : List Mark) → t.args ≤ b → Framed d text code args seen ends frames n t ks → Framed d text code args' seen ends frames n t ks
  framed_args zero t ks h no_frame = no_frame
  framed_args (suc n) t ks h (one_frame {k = k} {ks = js} i fs) = one_frame (is_args t (frame_at frames n) k js h i) (framed_args n (below (frame_at frames n) t) js (below_args (frame_at frames n) t b h) fs)

-- a new frame above
module _ (d : Decls) (text code args seen ends frames frames' : List ℕ) (b : ℕ) (same : (k : ℕ) → k < b → frame_at frames' k ≡ frame_at frames k) where
  pub framed_frames : (n : ℕ) (t : Tops) (ks : List Mark) → n ≤ b → Framed d text code args seen ends frames n t ks → Framed d text code args seen ends frames' n t ks
  framed_frames zero t ks h no_frame = no_frame
  framed_frames (suc n) t ks h (one_frame {k = k} {ks = js} i fs) = one_frame (go (frame_at frames' n) (same n (omega arith))) (rest (frame_at frames' n) (same n (omega arith)) (framed_frames n (below (frame_at frames n) t) js (omega arith) fs))
    where
      go : (f : Frame) → f ≡ frame_at frames n → Is d text code args seen ends t f k js
      go f e = rw e i

      rest : (f : Frame) → f ≡ frame_at frames n → Framed d text code args seen ends frames' n (below (frame_at frames n) t) js → Framed d text code args seen ends frames' n (below f t) js
      rest f e ih = rw e ih
