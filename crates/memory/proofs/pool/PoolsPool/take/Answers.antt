use Rattle.std.proofs.Common.{◌≡◌, ℕ, ◌+◌, ◌≤◌, length, sym, ap, ◌∙◌, subst, arith}
use Rattle.memory.specs.Place.{first_or, of_size}
use Rattle.memory.proofs.Places.{got_free, got_new}
use Rattle.memory.proofs.pool.PoolsPool.take.Goals as goal

some_one : (h : ℕ) → 1 ≤ h → h ≡ 0 → ⊥
some_one h one e = omega arith

no_one : (h : ℕ) → (1 ≤ h → ⊥) → h ≡ 0
no_one h none = omega arith

pub returns-in-Some-clause-takes : goal.returns-in-Some-clause-takes
returns-in-Some-clause-takes c = λ used free P. rw c.in-Some.ensures.1 (
    let g = got_free _ _ _ _ used free P c.requires.size.1 (some_one _ c.in-Some.ensures.0) in
    let t = P.filled in
    (g.which ∙ ap (λ n. first_or n (of_size c.args.k.0 free)) (sym t), (λ e. subst (λ (n : ℕ). n + c.args.k.0 ≤ length c.args.self.now.words.now) (sym t) (g.fits e)), g.pooled))

pub returns-clause-takes : goal.returns-clause-takes
returns-clause-takes c = λ used free P. (
    let r = P.room in
    let n : c.args.self.now.top + c.args.k.0 ≤ length c.args.self.now.words.now = omega arith in
    let g = got_new _ _ _ _ used free P c.requires.size.0 c.requires.size.1 (no_one _ c.in_default.ensures) n in
    let t = P.filled in
    (g.which ∙ ap (λ m. first_or m (of_size c.args.k.0 free)) (sym t), (λ e. subst (λ (m : ℕ). m + c.args.k.0 ≤ length c.args.self.now.words.now) (sym t) n), g.pooled))
