-- A frame that begins.
use Rattle.std.proofs.Common.{◌≡◌, ℕ, suc, ◌+◌, ◌<◌, List, ◌∷◌, ◌++◌, length, sym, ap, ◌∙◌, subst, arith}
use Rattle.scope.proofs.SlotWords.{length_slots}
use Rattle.checker.specs.declared.state.State.{State}
use Rattle.checker.specs.declared.frames.Frame.{Frame}
use Rattle.checker.specs.FrameWords.{frame_at}
use Rattle.checker.specs.Marks.{Mark, State2, scope}
use Rattle.checker.specs.Stands.{Decls, Lent, Stands, Tops, Is, Framed, one_frame, below, whole}
use Rattle.checker.proofs.Framing.{framed_frames}
use Rattle.checker.proofs.Decoded.{length_part}

pub frames_more : (d : Decls) (text code args seen ends fs fs' : List ℕ) (n m : ℕ) (t : Tops) (f : Frame) (k : Mark) (ks : List Mark) → m ≡ n + 1 → frame_at fs' n ≡ f → ((i : ℕ) → i < n → frame_at fs' i ≡ frame_at fs i) → below f t ≡ t → Is d text code args seen ends t f k ks → Framed d text code args seen ends fs n t ks → Framed d text code args seen ends fs' m t (k ∷ ks)
frames_more d text code args seen ends fs fs' n m t f k ks e this same b i fr = let z : suc n ≡ m = omega arith in subst (λ (j : ℕ). Framed d text code args seen ends fs' j t (k ∷ ks)) z (one_frame (subst (λ (g : Frame). Is d text code args seen ends t g k ks) (sym this) i) (subst (λ (u : Tops). Framed d text code args seen ends fs' n u ks) (sym (ap (λ g. below g t) this ∙ b)) (framed_frames d text code args seen ends fs fs' n same n t ks (omega arith) fr)))

-- heights are lengths
pub names_high : (d : Decls) (w : Lent) (h : State) (s : State2) → Stands d w h s → h.names ≡ length (scope s)
names_high d w h s st = sym (length_slots w.text w.code w.names w.loans h.names h.loans) ∙ ap length st.names

pub log_high : (d : Decls) (w : Lent) (h : State) (s : State2) → Stands d w h s → h.log ≡ length (s.log ++ whole s.frames)
log_high d w h s st = sym (length_part w.log 0 h.log) ∙ ap length st.log
