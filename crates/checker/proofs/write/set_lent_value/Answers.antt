use Rattle.std.proofs.Common.{◌≡◌, ◌+◌, ◌-◌, [], ◌∷◌, ap, ◌∙◌, arith}
use Rattle.scope.specs.Loans.{ent_of, slice}
use Rattle.checker.specs.Stands.{tops}
use Rattle.checker.proofs.Framing.{framed_args}
use Rattle.checker.proofs.write.set_lent_value.Goals as goal

pub returns : goal.returns
returns c = λ d text code s t e st.
    let w = c.args.words.now in
    let h = c.args.at.now in
    let z : (h.base + 1) - h.base ≡ 1 = omega arith in
    record {
      names = st.names;
      log = st.log;
      gaps = st.gaps;
      ty = e;
      ents = ap (slice text c.store.new.words h.base) z ∙ ap (λ x. ent_of text x ∷ []) c.store.ensures.this;
      frames = framed_args d text code w.args.now c.store.new.words w.seen.now w.ends.now w.frames.now h.base (c.store.ensures.below text) h.frames (tops h) s.frames (omega arith) st.frames;
    }
