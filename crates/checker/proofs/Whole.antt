-- The checker has of a program its declarations: what it finds there is what the rules find.
use Rattle.std.proofs.Common.{◌≡◌, Bool, true, false, List, [], ◌∷◌, refl}
use mathlib.Core.Option.{some}
use Rattle.language.specs.Base.{choose, if_some, Lexeme, same}
use Rattle.language.specs.Syntax.{Ty, int, dat, box, ref, mut, Access, take, view, edit, Fn, Prog}
use Rattle.language.specs.Checks.{fn_named, Var, Env, looks_at, data_of}
use Rattle.checker.specs.Heads.{sig_of, sig_named}
use Rattle.checker.specs.Frames.{Ctx, data_only}
use Rattle.checker.specs.Promise.{sigs_of}

-- the program that's checked, and of the function under check the parameters that are references and the type of what's given
pub record Whole : Type 0 where
  pub prog : Prog
  pub refs : List Lexeme
  pub ret : Ty

abbrev pub ctx : Whole → Ctx
ctx p = record { datas = p.prog.datas; sigs = sigs_of p.prog.funs; refs = p.refs; ret = p.ret }

pub sig_is : (fs : List Fn) (w : Lexeme) → sig_named (sigs_of fs) w ≡ if_some (fn_named fs w) (λ k. some (sig_of k))
sig_is [] w = refl
sig_is (f ∷ fs) w = go (same f.name w) (sig_is fs w)
  where
    go : (b : Bool) → sig_named (sigs_of fs) w ≡ if_some (fn_named fs w) (λ k. some (sig_of k)) → choose b (some (sig_of f)) (sig_named (sigs_of fs) w) ≡ if_some (choose b (some f) (fn_named fs w)) (λ k. some (sig_of k))
    go true h = refl
    go false h = h

pub data_of_is : (p : Prog) (t : Ty) → data_of (data_only p.datas) t ≡ data_of p t
data_of_is p int = refl
data_of_is p (dat d) = refl
data_of_is p (box t) = refl
data_of_is p (ref t) = refl
data_of_is p (mut t) = refl

-- to look at a name, of a program only its data is asked
pub looks_is : (p : Prog) (g : Env) (v : Var) (w : Access) (t : Ty) → looks_at (data_only p.datas) g v w t ≡ looks_at p g v w t
looks_is p g v take int = refl
looks_is p g v take (dat d) = refl
looks_is p g v take (box t) = refl
looks_is p g v take (ref t) = refl
looks_is p g v take (mut t) = refl
looks_is p g v view int = refl
looks_is p g v view (dat d) = refl
looks_is p g v view (box t) = refl
looks_is p g v view (ref t) = rw (data_of_is p t) refl
looks_is p g v view (mut t) = rw (data_of_is p t) refl
looks_is p g v edit int = refl
looks_is p g v edit (dat d) = refl
looks_is p g v edit (box t) = refl
looks_is p g v edit (ref t) = refl
looks_is p g v edit (mut t) = rw (data_of_is p t) refl
