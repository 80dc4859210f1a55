-- Programs that go wrong, and are refused: with the rule left out that is named above it, each would be accepted.
use Rattle.std.specs.Prelude.{Bool, true, false, List, [], ◌∷◌, ◌≡◌}
use Rattle.language.specs.Base.{Lexeme}
use Rattle.language.specs.Syntax.{int, dat, ref, Expr, num, var, ctor, call, share, lend, load, nil_e, cons_e, Access, view, edit, Stmt, bind, assign}
use Rattle.language.specs.Syntax.{store, put_s, loop, match_s, Stmts, nil_s, cons_s, no_alts, alt, body, give, Data, Fn, Prog}
use Rattle.language.specs.Checks.{accepts, w_main}
use Rattle.language.specs.Meaning.{Value, Stop, wrong, out_of_fuel, no_heap, no_stack, no_turns, Res, ok, stop, run}

abbrev pub is_wrong : Stop → Bool
is_wrong wrong = true
is_wrong out_of_fuel = false
is_wrong no_heap = false
is_wrong no_stack = false
is_wrong no_turns = false

abbrev pub ends_wrong : Res Value → Bool
ends_wrong (ok v s) = false
ends_wrong (stop k s) = is_wrong k

abbrev pub RefusedAndWrong : Prog → Type 0
RefusedAndWrong q = (accepts q ≡ false) × (ends_wrong (run 100 (record { heap = 1000; stack = 100000; max_turns = 100 }) q []) ≡ true)

-- data t = D(int) | N; the names a, b, r, k; a function f
abbrev w_t : Lexeme
w_t = 116 ∷ []

abbrev w_D : Lexeme
w_D = 68 ∷ []

abbrev w_N : Lexeme
w_N = 78 ∷ []

abbrev w_a : Lexeme
w_a = 97 ∷ []

abbrev w_b : Lexeme
w_b = 98 ∷ []

abbrev w_r : Lexeme
w_r = 114 ∷ []

abbrev w_k : Lexeme
w_k = 107 ∷ []

abbrev w_f : Lexeme
w_f = 102 ∷ []

abbrev a_data : Data
a_data = record { name = w_t; ctors = record { name = w_D; fields = int ∷ [] } ∷ record { name = w_N; fields = [] } ∷ []; last = [] }

abbrev steps : List Stmt → Stmts
steps [] = nil_s
steps (x ∷ xs) = cons_s x (steps xs)

-- fn main(): int { .. give 0 }, with the functions before it
abbrev with_main : List Stmt → List Fn → Prog
with_main xs fs = record { datas = a_data ∷ []; funs = record { name = w_main; pars = []; ret = int; does = body (steps xs) (give (num 0)) } ∷ fs }

-- D(1)
abbrev a_d : Expr
a_d = ctor w_D (cons_e (num 1) nil_e)

abbrev an_n : Expr
an_n = ctor w_N nil_e

-- view x { D(k) { .. } N { } }, or edit
abbrev looks : Access → Lexeme → List Stmt → Stmt
looks w x xs = match_s w x (alt w_D (w_k ∷ []) (steps xs) (alt w_N [] nil_s no_alts))

-- put *k
abbrev shows_k : Stmt
shows_k = put_s (load w_k)

-- a value is moved only if it is free: let a = D(1); let r = &a; let b = a; view r { D(k) { put *k; } N { } }
abbrev pub moved_while_lent : Prog
moved_while_lent = with_main (bind w_a a_d ∷ bind w_r (share w_a) ∷ bind w_b (var w_a) ∷ looks view w_r (shows_k ∷ []) ∷ []) []

-- a name is assigned only if it is free: let a = D(1); view a { D(k) { a = N; put *k; } N { } }
abbrev pub assigned_while_lent : Prog
assigned_while_lent = with_main (bind w_a a_d ∷ looks view w_a (assign w_a an_n ∷ shows_k ∷ []) ∷ []) []

-- a name is looked at only if it is readable: let a = D(1); let r = &mut a; view a { D(k) { *r = N; put *k; } N { } }
abbrev pub viewed_while_lent : Prog
viewed_while_lent = with_main (bind w_a a_d ∷ bind w_r (lend w_a) ∷ looks view w_a (store w_r an_n ∷ shows_k ∷ []) ∷ []) []

-- a loop moves nothing away: let a = D(1); while 1 { let b = a; }
abbrev pub moved_in_a_loop : Prog
moved_in_a_loop = with_main (bind w_a a_d ∷ loop (num 1) (steps (bind w_b (var w_a) ∷ [])) ∷ []) []

-- a reference that is given is the caller's: fn f(a: t): ref t { give &a } let r = f(D(1)); view r { D(k) { put *k; } N { } }
abbrev pub given_own_name : Prog
given_own_name = with_main (bind w_r (call w_f (cons_e a_d nil_e)) ∷ looks view w_r (shows_k ∷ []) ∷ [])
    (record { name = w_f; pars = record { name = w_a; ty = dat w_t } ∷ []; ret = ref (dat w_t); does = body nil_s (give (share w_a)) } ∷ [])

-- what a call gives holds the loans of its arguments:
-- fn f(a: ref t): ref t { give a } let a = D(1); let r = f(&a); let b = a; view r { D(k) { put *k; } N { } }
abbrev pub moved_behind_a_call : Prog
moved_behind_a_call = with_main
    (bind w_a a_d ∷ bind w_r (call w_f (cons_e (share w_a) nil_e)) ∷ bind w_b (var w_a) ∷ looks view w_r (shows_k ∷ []) ∷ [])
    (record { name = w_f; pars = record { name = w_a; ty = ref (dat w_t) } ∷ []; ret = ref (dat w_t); does = body nil_s (give (var w_a)) } ∷ [])

-- a mut is lent on from its name: let a = D(1); let r = &mut a; let b = r; edit b { D(k) { *r = N; put *k; } N { } }
abbrev pub lent_on_twice : Prog
lent_on_twice = with_main (bind w_a a_d ∷ bind w_r (lend w_a) ∷ bind w_b (var w_r) ∷ looks edit w_b (store w_r an_n ∷ shows_k ∷ []) ∷ []) []

abbrev pub RulesNeeded : Type 0
RulesNeeded =
    RefusedAndWrong moved_while_lent × RefusedAndWrong assigned_while_lent × RefusedAndWrong viewed_while_lent
    × RefusedAndWrong moved_in_a_loop
    × RefusedAndWrong given_own_name × RefusedAndWrong moved_behind_a_call × RefusedAndWrong lent_on_twice
