use Rattle.std.proofs.Common.{◌≡◌, ℕ, ◌<◌, List, sym, refl, ap, ◌∙◌, subst, arith}
use Rattle.reader.specs.Symbol.{step, fail}
use Rattle.language.specs.Base.{Lexeme}
use Rattle.lexer.specs.Left.{Next}
use Rattle.lexer.specs.Places.{from_place}
use Rattle.reader.specs.declared.error.Misread.{Misread}
use Rattle.reader.specs.Steps.{Stands, symbol_of, action_of}
use Rattle.reader.specs.Tokens.{text_of, tokens}
use Rattle.reader.specs.Machine.{Read}
use Rattle.reader.specs.declared.progress.Progress.{Progress}
use Rattle.reader.proofs.Turns.{Going, left_over, begun, bounded, done, failed, turned}
use Rattle.reader.proofs.machine.run.Goals as goal

pub loop-symbol-init : goal.loop-symbol-init
loop-symbol-init c =
    let start = c.new-at.ensures in
    let none_made : c.new-at.result.made ≡ 0 = ap (λ (p : Progress). p.made) start in (
      subst (Going c.args.text.now c.pile.new.words c.pile.new.self) (sym c.new-cursor.ensures.all)
          (begun c.args.text.now c.pile.new.words c.new-at.result c.pile.new.self c.args.words.now
          (ap (λ (p : Progress). p.height) start) none_made (ap (λ (p : Progress). p.base) start ∙ c.requires.base)
          (c.pile.ensures.performed (omega (arith, none_made)))),
      c.new-cursor.ensures.text,
    )

pub pop-requires : goal.pop-requires
pop-requires c =
    let g = c.loop-symbol.invariant.0 in
    let b = bounded c.args.text.now c.loop-symbol.words c.loop-symbol.at (tokens c.loop-symbol.cursor) g in
    let e = g.base in
    omega arith

pub perform-requires : goal.perform-requires
perform-requires c =
    let g = c.loop-symbol.invariant.0 in
    let b = bounded c.args.text.now c.loop-symbol.words c.loop-symbol.at (tokens c.loop-symbol.cursor) g in
    let e = g.base in
    let p = c.in-Some.ensures in
    (omega (arith, p.1, p.2, p.3), omega (arith, p.1, p.2, p.3))

-- what the step said, over the text itself
on_text : {D : Type 0} (text now : List ℕ) (A B : List ℕ → D) → now ≡ text → A now ≡ B now → A text ≡ B text
on_text text now A B e h = ap A (sym e) ∙ h ∙ ap B e

-- what is left begins at the place
standing : {text : List ℕ} (e : Misread) (ws : List Lexeme) → Stands text e ws → Stands text e (from_place text e.place)
standing {text} e ws s = record {
  place = record { within = s.place.within; rest = refl; no_blank = s.place.no_blank };
  found = subst (Next text e.found) (sym s.place.rest) s.found;
}

went : (c : goal.After-slice_known-in-Ok-1) →
    Going c.args.text.now c.perform.new.words c.perform.new.self (tokens c.step.new.c)
    × (left_over c.args.text.now c.perform.new.words c.perform.new.self (tokens c.step.new.c)
    < left_over c.args.text.now c.loop-symbol.words c.loop-symbol.at (tokens c.loop-symbol.cursor))
went c =
    turned c.args.text.now c.loop-symbol.words c.loop-symbol.at (tokens c.loop-symbol.cursor) c.loop-symbol.invariant.0
    c.in-Some.symbol c.pop.new.self c.in-Some.ensures
    c.in-Ok.action (tokens c.step.new.c) c.perform.new.words c.perform.new.self
    (on_text c.args.text.now (text_of c.loop-symbol.cursor)
    (λ t. action_of t c.in-Ok.action (tokens c.step.new.c))
    (λ t. step (symbol_of t c.in-Some.symbol) (tokens c.loop-symbol.cursor)) c.loop-symbol.invariant.1
    c.in-Ok.ensures.0)
    c.perform.ensures

pub loop-symbol-smaller : goal.loop-symbol-smaller
loop-symbol-smaller c = (went c).1

pub loop-symbol-preserved : goal.loop-symbol-preserved
loop-symbol-preserved c = ((went c).0, c.in-Ok.ensures.1 ∙ c.loop-symbol.invariant.1)

pub returns-in-Err : goal.returns-in-Err
returns-in-Err c = record {
  none_read =
      failed c.args.text.now c.loop-symbol.words c.loop-symbol.at (tokens c.loop-symbol.cursor) c.loop-symbol.invariant.0
      c.in-Some.symbol c.pop.new.self c.in-Some.ensures
      (on_text c.args.text.now (text_of c.loop-symbol.cursor) (λ t. fail)
      (λ t. step (symbol_of t c.in-Some.symbol) (tokens c.loop-symbol.cursor)) c.loop-symbol.invariant.1
      c.in-Err.ensures.0);
  stands =
      standing c.misread.result (tokens c.step.new.c)
      (subst (λ t. Stands t c.misread.result (tokens c.step.new.c))
      (c.in-Err.ensures.1 ∙ c.loop-symbol.invariant.1) c.misread.ensures);
}

pub returns : goal.returns
returns c =
    let end = c.in_default.ensures in
    subst (λ (p : Progress). Read c.args.text.now c.loop-symbol.words p.made) (sym end.1)
    (done c.args.text.now c.loop-symbol.words c.loop-symbol.at (tokens c.loop-symbol.cursor)
    c.loop-symbol.invariant.0 end.0)
