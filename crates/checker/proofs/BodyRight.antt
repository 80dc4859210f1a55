-- The machine on stacks and marks does what the one on environments does, and that what the rules say.
use Rattle.std.proofs.Common.{[], ◌∷◌, sym, ap, ◌∙◌}
use Rattle.language.specs.Base.{present}
use Rattle.language.specs.Checks.{ref_pars, pars_env}
use Rattle.code.specs.Instr.{i_end_fn, code_body}
use Rattle.checker.specs.Exec.{exec_all}
use Rattle.checker.specs.Machine.{start}
use Rattle.checker.specs.Promise.{ctx_in, BodyRight}
use Rattle.checker.proofs.ExecBody.{run_fn}
use Rattle.checker.proofs.Run2.{run2, start_inv, start_is}

pub body_right : BodyRight
body_right p f is h = sym (run2 (ctx_in p f) (code_body f.does (i_end_fn ∷ is)) (start f.pars) (start_inv f.pars h)) ∙ ap (λ s. present (exec_all (ctx_in p f) (code_body f.does (i_end_fn ∷ is)) s)) (start_is f.pars) ∙ run_fn f.does (record { prog = p; refs = ref_pars f.pars; ret = f.ret }) (pars_env f.pars []) is
