-- What the machine on stacks and marks says of a function is what the rules say.
use Rattle.std.specs.Prelude.{◌≡◌, true, List, [], ◌∷◌}
use Rattle.language.specs.Base.{present, no_twice}
use Rattle.language.specs.Syntax.{Fn, Prog}
use Rattle.language.specs.Checks.{is_body, ref_pars, pars_env, names_of_pars}
use Rattle.code.specs.Instr.{Instr, i_end_fn, code_body}
use Rattle.checker.specs.Heads.{Sig, sig_of}
use Rattle.checker.specs.Frames.{Ctx}
use Rattle.checker.specs.Machine.{exec2_all, start}

abbrev pub sigs_of : List Fn → List Sig
sigs_of [] = []
sigs_of (f ∷ fs) = sig_of f ∷ sigs_of fs

abbrev pub ctx_in : Prog → Fn → Ctx
ctx_in p f = record { datas = p.datas; sigs = sigs_of p.funs; refs = ref_pars f.pars; ret = f.ret }

-- whatever code stands behind it
abbrev pub BodyRight : Type 0
BodyRight = (p : Prog) (f : Fn) (is : List Instr) → no_twice (names_of_pars f.pars) ≡ true → present (exec2_all (ctx_in p f) (code_body f.does (i_end_fn ∷ is)) (start f.pars)) ≡ is_body p (ref_pars f.pars) f.ret (pars_env f.pars []) f.does
