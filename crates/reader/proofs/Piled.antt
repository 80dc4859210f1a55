-- Symbols are put on top one by one, the last of them first, and every word in front of the stack stays as it was.
use Rattle.std.proofs.Common.{◌≡◌, ℕ, ◌+◌, ◌-◌, ◌*◌, ◌<◌, ◌≤◌, List, [], ◌∷◌, length, get_or, drop, sym, ap, ◌∙◌, subst, append-nil, arith}
use Rattle.std.proofs.lemmas.List.{drop_more}
use Rattle.code.specs.Words.{code_in, Filled}
use Rattle.code.proofs.Filled.{same_code, same_filled}
use Rattle.reader.specs.declared.symbol.Symbol.{Symbol}
use Rattle.reader.specs.declared.progress.Progress.{Progress}
use Rattle.reader.specs.Machine.{Piled, Performed}

-- those from the i-th on are there, and then the one before them
pub one_more : (d : Symbol) (ss : List Symbol) (i : ℕ) (w0 : List ℕ) (at : Progress) (w1 : List ℕ) (mid : Progress)
    (w2 : List ℕ) (to : Progress) → 0 < i → i ≤ length ss → Piled (drop i ss) w0 at w1 mid →
    Piled (get_or ss (i - 1) d ∷ []) w1 mid w2 to → Piled (drop (i - 1) ss) w0 at w2 to
one_more d ss i w0 at w1 mid w2 to pos high p q =
    let inside : i - 1 < length ss = omega arith in
    let next : i - 1 + 1 ≡ i = omega arith in
    subst (λ k. Piled k w0 at w2 to)
    (sym (drop_more ss (i - 1) d inside ∙ ap (λ n. get_or ss (i - 1) d ∷ drop n ss) next)) (record {
      base = q.base ∙ p.base;
      height = let a = p.height in let b = q.height in omega arith;
      made = q.made ∙ p.made;
      stack = q.stack ∙ ap (λ (k : List Symbol). get_or ss (i - 1) d ∷ k) p.stack;
      kept = λ j low. q.kept j (let e = p.base in omega arith) ∙ p.kept j low;
    })

-- the code lies in front of the stack, so it is as it was
pub performed : (ss : List Symbol) (before : List ℕ) (at : Progress) (after : List ℕ) (to : Progress) →
    Piled ss before at after to → at.made ≤ at.base → Performed ss [] before at after to
performed ss before at after to p low = record {
  base = p.base;
  height = p.height;
  made = let e = p.made in omega arith;
  stack = p.stack;
  code = λ text.
      ap (code_in text after) p.made ∙ same_code text before after at.made kept
      ∙ sym (append-nil (code_in text before at.made));
  filled = λ full. subst (Filled after) (sym p.made) (same_filled before after at.made kept full);
}
  where
    kept : (j : ℕ) → j < 3 * at.made → get_or after j 0 ≡ get_or before j 0
    kept j l = p.kept j (omega arith)
