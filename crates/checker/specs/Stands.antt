-- What the lent words and the heights of their stacks stand for: a state of the machine.
use Rattle.std.specs.Prelude.{◌≡◌, ℕ, zero, suc, ◌+◌, ◌-◌, ◌*◌, ◌<◌, ◌≤◌, min, List, [], ◌∷◌, ◌++◌, length, Some, None, Ok, Err, Result, slice_index}
use Rattle.std.proofs.Math.Option.{Option, some, none}
use Rattle.std.specs.declared.option.Option as std
use Rattle.language.specs.Base.{choose, Lexeme}
use Rattle.language.specs.Syntax.{Ty, Data}
use Rattle.code.specs.Means.{access_of}
use Rattle.lexer.specs.Spelling.{lexeme_at}
use Rattle.types.specs.Types.{type_of, base_of}
use Rattle.scope.specs.declared.loans.Entry.{Entry}
use Rattle.scope.specs.Log.{Log, part, segments}
use Rattle.scope.specs.Loans.{Ent, slice, ent_of}
use Rattle.scope.specs.Slots.{Slot, slots_of}
use Rattle.checker.specs.declared.state.Source.{Source}
use Rattle.checker.specs.declared.state.Words.{Words}
use Rattle.checker.specs.declared.state.State.{State}
use Rattle.checker.specs.declared.state.Rule.{Rule}
use Rattle.checker.specs.declared.frames.Call.{Call}
use Rattle.checker.specs.declared.frames.Match.{Match}
use Rattle.checker.specs.declared.frames.Frame.{Frame}
use Rattle.checker.specs.declared.frames.Frame.TheVariants.{Call as ACall, Then, Else, Test, Loop, Match as AMatch}
use Rattle.checker.specs.FrameWords.{frame_at}
use Rattle.checker.specs.Marks.{Matching, Mark, k_call, k_then, k_else, k_test, k_loop, k_match, State2, names_of, scope}

-- the words as lists
pub record Lent : Type 0 where
  pub text : List ℕ
  pub code : List ℕ
  pub names : List ℕ
  pub loans : List ℕ
  pub args : List ℕ
  pub log : List ℕ
  pub gaps : List ℕ
  pub frames : List ℕ
  pub seen : List ℕ
  pub ends : List ℕ

abbrev pub lent_in : List ℕ → List ℕ → Words → Lent
lent_in text code w = record { text = text; code = code; names = w.names.now; loans = w.loans.now; args = w.args.now; log = w.log.now; gaps = w.gaps.now; frames = w.frames.now; seen = w.seen.now; ends = w.ends.now }

abbrev pub lent : Source → Words → Lent
lent s w = lent_in s.text.now s.code.now w

-- with other entries of names' loans
abbrev pub with_loans : Lent → List ℕ → Lent
with_loans w ls = record { text = w.text; code = w.code; names = w.names; loans = ls; args = w.args; log = w.log; gaps = w.gaps; frames = w.frames; seen = w.seen; ends = w.ends }

-- with other names
abbrev pub with_names : Lent → List ℕ → Lent
with_names w ns = record { text = w.text; code = w.code; names = ns; loans = w.loans; args = w.args; log = w.log; gaps = w.gaps; frames = w.frames; seen = w.seen; ends = w.ends }

-- what is declared, by its number: the types of a range of fields, and of one of parameters; data
pub record Decls : Type 0 where
  pub fields : ℕ → ℕ → List Ty
  pub params : ℕ → ℕ → List Ty
  pub data_at : ℕ → Data

-- the whole log, with the ways that have ended
abbrev pub whole : List Mark → Log
whole [] = []
whole (k_call ts t es ∷ ks) = whole ks
whole (k_then vs l ∷ ks) = l ++ whole ks
whole (k_else vs l a ∷ ks) = a ++ (l ++ whole ks)
whole (k_test vs l ∷ ks) = l ++ whole ks
whole (k_loop vs l ws m ∷ ks) = m ++ (l ++ whole ks)
whole (k_match vs l arms q ∷ ks) = segments arms ++ (l ++ whole ks)

-- the last gap goes from what was there before the ways to where the last one ended
abbrev pub Gap : List ℕ → ℕ → Log → Log → Type 0
Gap gs g below a = (0 < g) × (slice_index gs (2 * (g - 1)) ≡ length below) × (slice_index gs (2 * (g - 1) + 1) ≡ length (a ++ below))

abbrev pub Gapped : List ℕ → ℕ → List Mark → Type 0
Gapped gs g [] = g ≡ 0
Gapped gs g (k_call ts t es ∷ ks) = Gapped gs g ks
Gapped gs g (k_then vs l ∷ ks) = Gapped gs g ks
Gapped gs g (k_else vs l a ∷ ks) = Gap gs g (l ++ whole ks) a × Gapped gs (g - 1) ks
Gapped gs g (k_test vs l ∷ ks) = Gapped gs g ks
Gapped gs g (k_loop vs l ws m ∷ ks) = Gapped gs g ks
Gapped gs g (k_match vs l arms q ∷ ks) = Gap gs g (l ++ whole ks) (segments arms) × Gapped gs (g - 1) ks

-- how far up what a frame has among the arguments' entries, the constructors seen and the ends of arms
pub record Tops : Type 0 where
  pub args : ℕ
  pub seen : ℕ
  pub ends : ℕ

abbrev pub below : Frame → Tops → Tops
below (ACall c) t = record { args = min t.args c.base; seen = t.seen; ends = t.ends }
below (Then a b) t = t
below (Else a) t = t
below (Test a b) t = t
below (Loop a b c d) t = t
below (AMatch m) t = record { args = t.args; seen = min t.seen m.seen; ends = min t.ends m.ends }

abbrev pub seen_in : List ℕ → List ℕ → ℕ → ℕ → List Lexeme
seen_in text ws from zero = []
seen_in text ws from (suc n) = lexeme_at text (slice_index ws from) ∷ seen_in text ws (suc from) n

abbrev pub ends_in : List ℕ → ℕ → ℕ → List ℕ
ends_in ws from zero = []
ends_in ws from (suc n) = slice_index ws from ∷ ends_in ws (suc from) n

abbrev pub arm_ends : List Log → Log → List ℕ
arm_ends [] b = []
arm_ends (a ∷ arms) b = length (a ++ b) ∷ arm_ends arms (a ++ b)

abbrev pub part_is : List ℕ → std.Option Entry → Option Ent
part_is text None = none
part_is text (Some e) = some (ent_of text e)

-- a frame in words is a frame of the machine
pub data Is (d : Decls) (text code args seen ends : List ℕ) (t : Tops) : Frame → Mark → List Mark → Type 0 where
  is_call : {c : Call} {ts : List Ty} {u : Ty} {es : List Ent} {ks : List Mark} → choose c.params (d.params c.next c.end) (d.fields c.next c.end) ≡ ts → base_of text code c.makes ≡ u → slice text args c.base (t.args - c.base) ≡ es → c.base ≤ t.args → Is d text code args seen ends t (ACall c) (k_call ts u es) ks
  is_then : {h m : ℕ} {vs : List Slot} {l : Log} {ks : List Mark} → h ≡ length (vs ++ names_of ks) → m ≡ length (l ++ whole ks) → Is d text code args seen ends t (Then h m) (k_then vs l) ks
  is_else : {h : ℕ} {vs : List Slot} {l a : Log} {ks : List Mark} → h ≡ length (vs ++ names_of ks) → Is d text code args seen ends t (Else h) (k_else vs l a) ks
  is_test : {h m : ℕ} {vs : List Slot} {l : Log} {ks : List Mark} → h ≡ length (vs ++ names_of ks) → m ≡ length (l ++ whole ks) → Is d text code args seen ends t (Test h m) (k_test vs l) ks
  is_loop : {h m i n : ℕ} {vs ws : List Slot} {l a : Log} {ks : List Mark} → h ≡ length (vs ++ names_of ks) → m ≡ length (l ++ whole ks) → i ≡ length (ws ++ (vs ++ names_of ks)) → n ≡ length (a ++ (l ++ whole ks)) → Is d text code args seen ends t (Loop h m i n) (k_loop vs l ws a) ks
  is_match : {m : Match} {vs : List Slot} {l : Log} {arms : List Log} {q : Matching} {ks : List Mark} → m.names ≡ length (vs ++ names_of ks) → access_of m.access ≡ q.way → part_is text m.part ≡ q.part → d.data_at m.«data» ≡ q.data1 → seen_in text seen m.seen (t.seen - m.seen) ≡ q.seen → ends_in ends m.ends (t.ends - m.ends) ≡ arm_ends arms (l ++ whole ks) → d.fields m.next m.end ≡ q.left → Is d text code args seen ends t (AMatch m) (k_match vs l arms q) ks

pub data Framed (d : Decls) (text code args seen ends frames : List ℕ) : ℕ → Tops → List Mark → Type 0 where
  no_frame : {t : Tops} → Framed d text code args seen ends frames zero t []
  one_frame : {n : ℕ} {t : Tops} {k : Mark} {ks : List Mark} → Is d text code args seen ends t (frame_at frames n) k ks → Framed d text code args seen ends frames n (below (frame_at frames n) t) ks → Framed d text code args seen ends frames (suc n) t (k ∷ ks)

abbrev pub tops : State → Tops
tops h = record { args = h.base; seen = h.seen; ends = h.ends }

pub record Stands (d : Decls) (w : Lent) (h : State) (s : State2) : Type 0 where
  pub names : slots_of w.text w.code w.names w.loans h.names h.loans ≡ scope s
  pub log : part w.log 0 h.log ≡ s.log ++ whole s.frames
  pub gaps : Gapped w.gaps h.gaps s.frames
  pub ty : type_of w.text w.code h.ty ≡ s.ty
  pub ents : slice w.text w.args h.base (h.args - h.base) ≡ s.ents
  pub frames : Framed d w.text w.code w.args w.seen w.ends w.frames h.frames (tops h) s.frames

-- room for what one instruction may add
pub record Room (w : Lent) (h : State) : Type 0 where
  pub names : 7 * h.names + 7 ≤ length w.names
  pub loans : 2 * (h.loans + (h.args - h.base)) + 2 ≤ length w.loans
  pub args : 2 * h.args + 2 ≤ length w.args
  pub based : h.base ≤ h.args
  pub log : 2 * h.log + 4 ≤ length w.log
  pub gaps : 2 * h.gaps + 2 ≤ length w.gaps
  pub frames : 10 * h.frames + 10 ≤ length w.frames
  pub seen : h.seen + 1 ≤ length w.seen
  pub ends : h.ends + 1 ≤ length w.ends
  pub boxes : h.ty.boxes + 1 < 2 * 9223372036854775808

-- how a step ended
abbrev pub Left : Decls → Lent → State → Option State2 → Type 0
Left d w h none = ⊥
Left d w h (some t) = Stands d w h t

abbrev pub Steps : Decls → Lent → State → Option State2 → Result Unit Rule → Type 0
Steps d w h o (Ok u) = Left d w h o
Steps d w h o (Err e) = o ≡ none
