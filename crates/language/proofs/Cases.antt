-- Worked programs, read, checked and run by the definitions: each holds by computing.
use mathlib.Core.Bool.{Bool, true, false}
use mathlib.Core.List.{List, [], ◌∷◌, ◌++◌}
use mathlib.Core.Path.{◌≡◌, refl}
use Prim.Native.Nat.{ℕ}
use lib.Chars.{codes}
use Rattle.language.specs.Base.{from_option}
use Rattle.language.specs.Syntax.{Prog}
use Rattle.language.specs.Text.{reads}
use Rattle.language.specs.Checks.{accepts}
use Rattle.language.specs.Meaning.{Value, int_v, Stop, wrong, no_heap, Limits, Res, ok, stop, then, need, turn, goes_under, eval, run}
use Rattle.language.specs.Says.{first_bad}

-- how a text fares: no text; refused, at which function; or accepted
pub data Verdict : Type 0 where
  no_text : Verdict
  refused : ℕ → Verdict
  accepted : Verdict

abbrev verdict_of : Prog → Bool → Verdict
verdict_of q true = accepted
verdict_of q false = refused (first_bad q 1 q.funs)

abbrev verdict : List ℕ → Verdict
verdict text = from_option (reads text) no_text (λ q. verdict_of q (accepts q))

-- how a text runs, accepted or not: what it ends with, or why it stops, and what it shows
pub data Ending : Type 0 where
  nothing : Ending
  ended : Value → List ℕ → Ending
  stopped : Stop → List ℕ → Ending

abbrev ending_of : Res Value → Ending
ending_of (ok v s) = ended v s.outs
ending_of (stop k s) = stopped k s.outs

within : Limits → List ℕ → Ending
unfolding eval then need turn goes_under
within m text = from_option (reads text) nothing (λ q. ending_of (run 400 m q []))

abbrev lent : ℕ → ℕ → ℕ → Limits
lent h k n = record { heap = h; stack = k; max_turns = n }

abbrev ending : List ℕ → Ending
ending text = within (lent 1000 100000 100) text

abbrev list_of_ints : List ℕ
list_of_ints = codes "data list = Nil | Cons(int, box list); fn up(n: int): list { give if n == 0 { give Nil } else { give Cons(n, box up(n - 1)) } } fn sum(r: ref list): int { give view r { Nil { give 0 } Cons(x, t) { let u = inside t; give *x + sum(u) } } } "

abbrev with_last_words : List ℕ
with_last_words = codes "data d = D(int) drop bye; fn bye(x: mut d): int { edit x { D(k) { put *k; } } give 0 } "

-- a list turned round
abbrev turned : List ℕ
turned = list_of_ints ++ codes "fn rev(l: list, acc: list): list { give take l { Nil { give acc } Cons(x, t) { let u = open t; give rev(u, Cons(x, box acc)) } } } fn main(): int { let l = rev(up(4), Nil); give sum(&l) }"

turned_accepted : verdict turned ≡ accepted
turned_accepted = refl

turned_ends : ending turned ≡ ended (int_v 10) []
unfolding within
turned_ends = refl

-- boxes of 3 words, 4 at most: 12 words suffice, and one less doesn't
turned_room : within (lent 12 100000 100) turned ≡ ended (int_v 10) []
unfolding within
turned_room = refl

turned_no_room : within (lent 11 100000 100) turned ≡ stopped no_heap []
unfolding within
turned_no_room = refl

-- moved on one way; last words in their order
abbrev last_words : List ℕ
last_words = with_last_words ++ codes "fn keep(x: d): int { put 9; give 5 } fn main(): int { let a = D(1); let b = D(2); if 1 { put keep(a); } else { } let c = D(3); c = D(4); give 0 }"

last_words_accepted : verdict last_words ≡ accepted
last_words_accepted = refl

last_words_end : ending last_words ≡ ended (int_v 0) (9 ∷ 1 ∷ 5 ∷ 3 ∷ 4 ∷ 2 ∷ [])
unfolding within
last_words_end = refl

-- a reference that a function gives
abbrev first : List ℕ
first = codes "data list = Nil | Cons(int, box list); fn first(m: mut list): mut int { give edit m { Nil { give first(m) } Cons(x, t) { give x } } } fn main(): int { let l = Cons(4, box Nil); if 1 { let r = first(&mut l); *r = 9; } else { } give view l { Nil { give 0 } Cons(x, t) { give *x } } }"

first_accepted : verdict first ≡ accepted
first_accepted = refl

first_ends : ending first ≡ ended (int_v 9) []
unfolding within
first_ends = refl

-- assigned to while it is shown: refused; written through what was lent: accepted
shown : verdict (codes "fn main(): int { let x = 1; let r = &x; x = 2; give *r }") ≡ refused 1
shown = refl

abbrev lent_on : List ℕ
lent_on = codes "fn main(): int { let x = 1; let r = &mut x; *r = 2; give *r }"

lent_on_accepted : verdict lent_on ≡ accepted
lent_on_accepted = refl

lent_on_ends : ending lent_on ≡ ended (int_v 2) []
unfolding within
lent_on_ends = refl

-- used after it was moved: refused, and it goes wrong
abbrev moved : List ℕ
moved = codes "data d = D(int); fn main(): int { let a = D(1); let b = a; give take a { D(x) { give x } } }"

moved_refused : verdict moved ≡ refused 1
moved_refused = refl

moved_wrong : ending moved ≡ stopped wrong []
unfolding within
moved_wrong = refl

-- lent and shown at once; a reference to what ends; a reference to what the caller has
twice : verdict (codes "data d = D(int); fn f(x: mut d, y: ref d): int { give 0 } fn main(): int { let a = D(1); give f(&mut a, &a) }") ≡ refused 2
twice = refl

own : verdict (codes "data d = D(int); fn f(x: d): ref d { give &x } fn main(): int { give 0 }") ≡ refused 1
own = refl

back : verdict (codes "data d = D(int); fn f(x: ref d): ref d { give x } fn main(): int { give 0 }") ≡ accepted
back = refl

-- what a round moves, it puts back
round : verdict (codes "data d = D(int); fn main(): int { let a = D(1); while 0 { let b = a; } give 0 }") ≡ refused 1
round = refl

round_back : verdict (codes "data d = D(int); fn main(): int { let a = D(1); while 0 { let b = a; a = D(2); } give 0 }") ≡ accepted
round_back = refl

-- data that is part of itself
ring : verdict (codes "data d = D(d); fn main(): int { give 0 }") ≡ refused 0
ring = refl

-- no text
unclosed : verdict (codes "fn main(): int { give 0 ") ≡ no_text
unclosed = refl
