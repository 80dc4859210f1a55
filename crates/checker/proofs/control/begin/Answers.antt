use Rattle.std.proofs.Common.{◌≡◌, ◌-◌, sym, refl, ap, ◌∙◌, arith}
use Rattle.scope.specs.Loans.{slice}
use Rattle.checker.specs.Stands.{tops}
use Rattle.checker.proofs.Beginning.{frames_more}
use Rattle.checker.proofs.control.begin.Goals as goal

pub returns : goal.returns
returns c = λ d text code s k st i b nm wh g.
    let h = c.args.at.now in
    let w = c.args.words.now in
    let z : h.base - h.base ≡ 0 = omega arith in
    record {
      names = st.names ∙ sym nm;
      log = st.log ∙ sym wh;
      gaps = g;
      ty = c.int-at.ensures.is text code;
      ents = ap (slice text w.args.now h.base) z;
      frames = frames_more d text code w.args.now w.seen.now w.ends.now w.frames.now c.store.new.words h.frames _ (tops h) c.args.frame k s.frames refl c.store.ensures.this (λ k l. c.store.ensures.others k (λ e. omega arith)) b i st.frames;
    }
