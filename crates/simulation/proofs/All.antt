-- The induction on fuel: one record of statements, from one fuel to the next.
use mathlib.Core.Path.{◌≡◌}
use mathlib.Core.List.{List}
use mathlib.Core.Option.{Option, some}
use Prim.Native.Nat.{ℕ, zero, suc}
use Rattle.language.specs.Base.{Lexeme}
use Rattle.language.specs.Syntax.{dat, num, var, op, ctor, boxed, call, share, lend, load, get_e, bind, assign, store, put_s, cond, loop, match_s, open_s, inside, give, give_cond, give_match, Prog}
use Rattle.language.specs.Meaning.{con_v, Values, Class, words_of, eval}
use Rattle.simulation.proofs.Machine.{Kit, Info, Place, Pools, Instr}
use Rattle.simulation.proofs.Lowering.{Entry}
use Rattle.simulation.proofs.Memory.{Fits}
use Rattle.simulation.proofs.Relation.{Pooling, by_stop}
use Rattle.simulation.proofs.Stand.{EvalSim}
use Rattle.simulation.proofs.Expressions.{sim_num, sim_op, sim_var, sim_lend, sim_share, sim_load, sim_get, sim_boxed}
use Rattle.simulation.proofs.Arguments.{EvalsSim, sim_evals, sim_ctor}
use Rattle.simulation.proofs.Calls.{Coded, CallsSim, sim_calls, sim_call}
use Rattle.simulation.proofs.Bodies.{BodySim, TailSim, sim_give, sim_give_cond, sim_body}
use Rattle.simulation.proofs.Statements.{ExecSim, ExecsSim, BlockSim, EndsSim, sim_bind, sim_put}
use Rattle.simulation.proofs.Flow.{sim_cond, sim_loop, sim_execs, sim_block}
use Rattle.simulation.proofs.Drops.{Tables, DropSim, FieldsSim, PartsSim, LastSim, sim_fields, sim_parts}
use Rattle.simulation.proofs.BoxDrops.{sim_drop}
use Rattle.simulation.proofs.Lasts.{sim_last}
use Rattle.simulation.proofs.Stores.{sim_ends}
use Rattle.simulation.proofs.Assigns.{sim_assign, sim_store}
use Rattle.simulation.proofs.Alternatives.{AltSim, ArmSim, sim_alt, sim_match}
use Rattle.simulation.proofs.Arms.{sim_arm, sim_give_match}
use Rattle.simulation.proofs.Opens.{sim_open, sim_inside}

module _ (K : Kit) (F : Fits K) (P : Pools → (ℕ → ℕ) → List Class → List Place → Type 0) (Q : Pooling K P) (code : List Instr) (fns : Lexeme → Option Entry) (q : Prog) (dw : (k : Lexeme) (vs : Values) (i : Info) → K.info k ≡ some i → words_of q (con_v k vs) ≡ K.size (dat i.home)) where
  pub record Sims (u : ℕ) : Type 0 where
    pub eval1 : EvalSim K F P Q code fns q dw u
    pub evals1 : EvalsSim K F P Q code fns q dw u
    pub calls1 : CallsSim K F P Q code fns q dw u
    pub body1 : BodySim K F P Q code fns q dw u
    pub tail1 : TailSim K F P Q code fns q dw u
    pub arm1 : ArmSim K F P Q code fns q dw u
    pub execs1 : ExecsSim K F P Q code fns q dw u
    pub exec1 : ExecSim K F P Q code fns q dw u
    pub block1 : BlockSim K F P Q code fns q dw u
    pub alt1 : AltSim K F P Q code fns q dw u
    pub ends1 : EndsSim K F P Q code fns q dw u
    pub drop1 : DropSim K F P Q code fns q dw u
    pub fields1 : FieldsSim K F P Q code fns q dw u
    pub parts1 : PartsSim K F P Q code fns q dw u
    pub last1 : LastSim K F P Q code fns q dw u

  module _ (TB : Tables K F P Q code fns q dw) (cd : Coded K F P Q code fns q dw) where
    eval_step : (u : ℕ) → Sims u → EvalSim K F P Q code fns q dw (suc u)
    unfolding eval
    eval_step u A (num k) G g Z fb sp lo h is L s M f ec sf S rm R st = sim_num K F P Q code fns q dw u A.eval1 k G g Z fb sp lo h is L s M f ec S R
    eval_step u A (var x) G g Z fb sp lo h is L s M f ec sf S rm R st = sim_var K F P Q code fns q dw u A.eval1 x G g Z fb sp lo h is L s M ec S R st
    eval_step u A (op o d e) G g Z fb sp lo h is L s M f ec sf S rm R st = sim_op K F P Q code fns q dw u A.eval1 o d e G g Z fb sp lo h is L s M f ec sf S rm R st
    eval_step u A (ctor k es) G g Z fb sp lo h is L s M f ec sf S rm R st = sim_ctor K F P Q code fns q dw u A.eval1 A.evals1 k es G g Z fb sp lo h is L s M f ec sf S rm R st
    eval_step u A (boxed e) G g Z fb sp lo h is L s M f ec sf S rm R st = sim_boxed K F P Q code fns q dw u A.eval1 e G g Z fb sp lo h is L s M f ec sf S rm R st
    eval_step u A (call k es) G g Z fb sp lo h is L s M f ec sf S rm R st = sim_call K F P Q code fns q dw cd u A.evals1 A.calls1 k es G g Z fb sp lo h is L s M f ec sf S rm R st
    eval_step u A (share x) G g Z fb sp lo h is L s M f ec sf S rm R st = sim_share K F P Q code fns q dw u A.eval1 x G g Z fb sp lo h is L s M ec S R
    eval_step u A (lend x) G g Z fb sp lo h is L s M f ec sf S rm R st = sim_lend K F P Q code fns q dw u A.eval1 x G g Z fb sp lo h is L s M ec S R st
    eval_step u A (load x) G g Z fb sp lo h is L s M f ec sf S rm R st = sim_load K F P Q code fns q dw u A.eval1 x G g Z fb sp lo h is L s M ec S R
    eval_step u A get_e G g Z fb sp lo h is L s M f ec sf S rm R st = sim_get K F P Q code fns q dw u A.eval1 G g Z fb sp lo h is L s M ec S R

    exec_step : (u : ℕ) → Sims u → ExecSim K F P Q code fns q dw (suc u)
    exec_step u A (bind x e) C g Z fb sp room is L s M f Y ec sf R st = sim_bind K F P Q code fns q dw u A.eval1 x e C g Z fb sp room is L s M f Y ec sf R st
    exec_step u A (assign x e) C g Z fb sp room is L s M f Y ec sf R st = sim_assign K F P Q code fns q dw u A.eval1 A.drop1 x e C g Z fb sp room is L s M f Y ec sf R st
    exec_step u A (store x e) C g Z fb sp room is L s M f Y ec sf R st = sim_store K F P Q code fns q dw u A.eval1 A.drop1 x e C g Z fb sp room is L s M f Y ec sf R st
    exec_step u A (put_s e) C g Z fb sp room is L s M f Y ec sf R st = sim_put K F P Q code fns q dw u A.eval1 e C g Z fb sp room is L s M f Y ec sf R st
    exec_step u A (cond e x y) C g Z fb sp room is L s M f Y ec sf R st = sim_cond K F P Q code fns q dw u A.eval1 A.exec1 A.block1 e x y C g Z fb sp room is L s M f Y ec sf R st
    exec_step u A (loop e x) C g Z fb sp room is L s M f Y ec sf R st = sim_loop K F P Q code fns q dw u A.eval1 A.exec1 A.block1 e x C g Z fb sp room is L s M f Y ec sf R st
    exec_step u A (match_s w x as₁) C g Z fb sp room is L s M f Y ec sf R st = sim_match K F P Q code fns q dw u A.eval1 A.alt1 w x as₁ C g Z fb sp room is L s M f Y ec sf R st
    exec_step u A (open_s x y) C g Z fb sp room is L s M f Y ec sf R st = sim_open K F P Q code fns q dw u A.eval1 x y C g Z fb sp room is L s M f Y ec R st
    exec_step u A (inside x y) C g Z fb sp room is L s M f Y ec sf R st = sim_inside K F P Q code fns q dw u A.eval1 x y C g Z fb sp room is L s M Y ec R st

    tail_step : (u : ℕ) → Sims u → TailSim K F P Q code fns q dw (suc u)
    tail_step u A (give e) C g Z fb sp room t is L s M f h8 un ar Y ec sf R st = sim_give K F P Q code fns q dw u A.eval1 A.body1 e C g Z fb sp room t is L s M f h8 un ar Y ec sf R st
    tail_step u A (give_cond e a d) C g Z fb sp room t is L s M f h8 un ar Y ec sf R st = sim_give_cond K F P Q code fns q dw u A.eval1 A.body1 e a d C g Z fb sp room t is L s M f h8 un ar Y ec sf R st
    tail_step u A (give_match w x as₁) C g Z fb sp room t is L s M f h8 un ar Y ec sf R st = sim_give_match K F P Q code fns q dw u A.eval1 A.arm1 w x as₁ C g Z fb sp room t is L s M f h8 un ar Y ec sf R st

    pub all_sims : (u : ℕ) → Sims u
    unfolding eval
    all_sims zero = record {
      eval1 = λ e G g Z fb sp lo h is L s M f ec sf S rm R st. by_stop tt;
      evals1 = λ es vs G g Z fb sp lo h is L s M f ec sf S rm R st. by_stop tt;
      calls1 = λ f fn vs b1 res e1 e2 e3 a Z lo L s M ef ld hl h1 un ha ly sp R st. by_stop tt;
      body1 = λ d C ls D1 ks h lo Z fb sp room t is L s M f en ns sk h8 un ar Y ec sf R st. by_stop tt;
      tail1 = λ x C g Z fb sp room t is L s M f h8 un ar Y ec sf R st. by_stop tt;
      arm1 = λ as₁ w l loc k vs d C g Z fb sp room t is L s M f h8 un ar Y ec sf ej R lk st. by_stop tt;
      execs1 = λ xs C g Z fb sp room is L s M f Y ec sf R st. by_stop tt;
      exec1 = λ x C g Z fb sp room is L s M f Y ec sf R st. by_stop tt;
      block1 = λ xs C ls D1 ks h lo Z fb sp room is L s M f en ns sk Y un ec sf R st. by_stop tt;
      alt1 = λ as₁ w l loc k vs d C g Z fb sp room is L s M f Y ec sf ej R lk st. by_stop tt;
      ends1 = λ ls ks lo hi Z fb sp is L s M ns sk h1 h2 un B ec sf R st. by_stop tt;
      drop1 = λ v t a pe Z lo L s M em fl ly hd dr R st. by_stop tt;
      fields1 = λ vs ts o e a Z lo L s M em he ho rn ly h1 h0 dr R st. by_stop tt;
      parts1 = λ v d a pe Z lo L s M em fl ly hd dr R st. by_stop tt;
      last1 = λ v f d fn a pe Z lo L s M em fl lf ef ly hd dr R st. by_stop tt;
    }
    all_sims (suc u) = let A = all_sims u in record {
      eval1 = eval_step u A;
      evals1 = sim_evals K F P Q code fns q dw u A.eval1 A.evals1;
      calls1 = sim_calls K F P Q code fns q dw cd u A.body1;
      body1 = sim_body K F P Q code fns q dw u A.execs1 A.tail1 A.ends1;
      tail1 = tail_step u A;
      arm1 = sim_arm K F P Q code fns q dw TB u A.body1;
      execs1 = sim_execs K F P Q code fns q dw u A.exec1 A.execs1 A.ends1;
      exec1 = exec_step u A;
      block1 = sim_block K F P Q code fns q dw u A.exec1 A.execs1 A.ends1;
      alt1 = sim_alt K F P Q code fns q dw TB u A.block1;
      ends1 = sim_ends K F P Q code fns q dw u A.drop1 A.ends1;
      drop1 = sim_drop K F P Q code fns q dw TB u A.drop1 A.fields1 A.last1;
      fields1 = sim_fields K F P Q code fns q dw TB u A.drop1 A.fields1;
      parts1 = sim_parts K F P Q code fns q dw TB u A.drop1 A.fields1;
      last1 = sim_last K F P Q code fns q dw cd u A.calls1 A.parts1;
    }
