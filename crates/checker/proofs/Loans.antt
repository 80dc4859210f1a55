-- The order of loans is no matter: two lists of loans are alike if every question has the same answer.
use Rattle.std.proofs.Common.{◌≡◌, Bool, not, ◌&&◌, ◌||◌, List, [], ◌∷◌, ◌++◌, sym, refl, ap, ◌∙◌, ap₂, append_assoc}
use mathlib.Core.Bool.{or_assoc, or_comm}
use Rattle.language.specs.Base.{some_of, Lexeme, same}
use Rattle.language.specs.Syntax.{Ty, int, dat, box, ref, mut}
use Rattle.language.specs.Checks.{Loan, Var, Env, all_loans, readable, is_free, value, shared}
use Rattle.checker.proofs.Options.{only_when}

-- the same loans, whatever is asked of them
abbrev pub like : List Loan → List Loan → Type 0
like ls ms = (f : Loan → Bool) → some_of f ls ≡ some_of f ms

pub some_of-++ : (f : Loan → Bool) (a b : List Loan) → some_of f (a ++ b) ≡ (some_of f a || some_of f b)
some_of-++ f [] b = refl
some_of-++ f (x ∷ a) b = ap (λ c. f x || c) (some_of-++ f a b) ∙ sym (or_assoc (f x) (some_of f a) (some_of f b))

pub like-++ : (a b c d : List Loan) → like a b → like c d → like (a ++ c) (b ++ d)
like-++ a b c d h k f = some_of-++ f a c ∙ ap₂ ◌||◌ (h f) (k f) ∙ sym (some_of-++ f b d)

pub like_swap : (a b : List Loan) → like (a ++ b) (b ++ a)
like_swap a b f = some_of-++ f a b ∙ or_comm (some_of f a) (some_of f b) ∙ sym (some_of-++ f b a)

-- the newest argument first, as the rules have it; or last
pub like_held : (acc ls hs held : List Loan) → like held (acc ++ hs) → like (ls ++ held) ((acc ++ ls) ++ hs)
like_held acc ls hs held h f = like-++ ls ls held (acc ++ hs) (λ f. refl) h f ∙ ap (some_of f) (sym (append_assoc ls acc hs)) ∙ like-++ (ls ++ acc) (acc ++ ls) hs hs (like_swap ls acc) (λ f. refl) f

pub readable_like : (held hs : List Loan) (g : Env) (x : Lexeme) → like held hs → readable (held ++ all_loans g) x ≡ readable (hs ++ all_loans g) x
readable_like held hs g x h = ap not (like-++ held hs (all_loans g) (all_loans g) h (λ f. refl) (λ l. same l.root x && l.alone))

pub free_like : (held hs : List Loan) (g : Env) (x : Lexeme) → like held hs → is_free (held ++ all_loans g) x ≡ is_free (hs ++ all_loans g) x
free_like held hs g x h = ap not (like-++ held hs (all_loans g) (all_loans g) h (λ f. refl) (λ l. same l.root x))

pub value_like : (held hs : List Loan) (g : Env) (v : Var) (t : Ty) → like held hs → value held g v t ≡ value hs g v t
value_like held hs g v int h = only_when _ (readable_like held hs g v.name h)
value_like held hs g v (dat d) h = only_when _ (free_like held hs g v.name h)
value_like held hs g v (box t) h = only_when _ (free_like held hs g v.name h)
value_like held hs g v (ref t) h = only_when _ (readable_like held hs g v.name h)
value_like held hs g v (mut t) h = only_when _ (free_like held hs g v.name h)

pub shared_like : (held hs : List Loan) (g : Env) (v : Var) (t : Ty) → like held hs → shared held g v t ≡ shared hs g v t
shared_like held hs g v int h = only_when _ (readable_like held hs g v.name h)
shared_like held hs g v (dat d) h = only_when _ (readable_like held hs g v.name h)
shared_like held hs g v (box t) h = only_when _ (readable_like held hs g v.name h)
shared_like held hs g v (ref t) h = refl
shared_like held hs g v (mut t) h = only_when _ (readable_like held hs g v.name h)
