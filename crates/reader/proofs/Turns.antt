-- What a turn of the machine keeps.
use Rattle.std.proofs.Common.{◌≡◌, ℕ, suc, ◌+◌, ◌*◌, ◌<◌, ◌≤◌, List, [], ◌∷◌, ◌++◌, Some, map, length, sym, refl, ap, ◌∙◌, subst, append-nil, arith}
use mathlib.Core.Option.{none}
use Rattle.std.proofs.lemmas.List.{length-map}
use Rattle.language.specs.Base.{Lexeme}
use Rattle.language.specs.Text.{reads, tokenize, idle}
use Rattle.lexer.proofs.Few.{few_words}
use Rattle.code.specs.Instr.{Instr}
use Rattle.code.specs.Means.{means}
use Rattle.code.specs.Words.{instrs_in, code_in, Filled}
use Rattle.reader.specs.declared.symbol.Symbol.{Symbol}
use Rattle.reader.specs.declared.symbol.Symbol.TheVariants.{Items}
use Rattle.reader.specs.declared.action.Action.{Action}
use Rattle.reader.specs.declared.action.Action.TheVariants.{Emit, Push0, Push1, Push2, Push3, Push4}
use Rattle.reader.specs.declared.action.Action.TheVariants.{Push6, Push7, Push8}
use Rattle.reader.specs.declared.progress.Progress.{Progress}
use Rattle.reader.specs.Symbol as spec
use Rattle.reader.specs.Steps.{symbol_of, symbols_of, action_of}
use Rattle.reader.specs.Stack.{stack_in}
use Rattle.reader.specs.Machine.{pushed, given, stack_of, Performed, Popped, Read}
use Rattle.reader.proofs.OnStack.{tall}
use Rattle.reader.proofs.ReadRun.{After, Kept, kept, kept_start, kept_fails, kept_ends, measure, height}
use Rattle.reader.proofs.ReadRun.{room_height}

symbols-++ : (text : List ℕ) (a b : List Symbol) → symbols_of text (a ++ b) ≡ symbols_of text a ++
    symbols_of text b
symbols-++ text [] b = refl
symbols-++ text (s ∷ a) b = ap (λ (k : List spec.Symbol). symbol_of text s ∷ k) (symbols-++ text a b)

symbols_long : (text : List ℕ) (k : List Symbol) → length (symbols_of text k) ≡ length k
symbols_long text [] = refl
symbols_long text (s ∷ k) = ap suc (symbols_long text k)

-- an action that was performed is what the step says
after : (text : List ℕ) (a : Action) (ts : List Lexeme) (k k1 : List spec.Symbol) (o o1 : List Instr) →
    k1 ≡ symbols_of text (pushed a) ++ k → o1 ≡ o ++ map (means text) (given a) →
    After (action_of text a ts) k o k1 ts o1
after text (Emit i) ts k k1 o o1 e f = (e, refl, f)
after text Push0 ts k k1 o o1 e f = (e, refl, f ∙ append-nil o)
after text (Push1 ss) ts k k1 o o1 e f = (e, refl, f ∙ append-nil o)
after text (Push2 ss) ts k k1 o o1 e f = (e, refl, f ∙ append-nil o)
after text (Push3 ss) ts k k1 o o1 e f = (e, refl, f ∙ append-nil o)
after text (Push4 ss) ts k k1 o o1 e f = (e, refl, f ∙ append-nil o)
after text (Push6 ss) ts k k1 o o1 e f = (e, refl, f ∙ append-nil o)
after text (Push7 ss) ts k k1 o o1 e f = (e, refl, f ∙ append-nil o)
after text (Push8 ss) ts k k1 o o1 e f = (e, refl, f ∙ append-nil o)

-- what the loop keeps of its words, and its measure
pub record Going (text words : List ℕ) (at : Progress) (ts : List Lexeme) : Type 0 where
  pub state : Kept (tokenize idle text) (symbols_of text (stack_of words at)) ts (code_in text words at.made)
  pub filled : Filled words at.made
  pub base : at.base ≡ 3 * length text + 1

abbrev pub left_over : List ℕ → List ℕ → Progress → List Lexeme → ℕ
left_over text words at ts = measure (symbols_of text (stack_of words at)) ts

pub begun : (text words : List ℕ) (none_yet at : Progress) (before : List ℕ) → none_yet.height ≡ 0 →
    none_yet.made ≡ 0 → none_yet.base ≡ 3 * length text + 1 →
    Performed (Items ∷ []) [] before none_yet words at → Going text words at (tokenize idle text)
begun text words none_yet at before z n b p = record { state = start; filled = full; base = p.base ∙ b }
  where
    empty : stack_of before none_yet ≡ []
    empty = ap (stack_in before none_yet.base) z

    stack : symbols_of text (stack_of words at) ≡ spec.s_items ∷ []
    stack = ap (symbols_of text) (p.stack ∙ ap (λ (k : List Symbol). Items ∷ k) empty)

    code : code_in text words at.made ≡ []
    code = p.code text ∙ append-nil (code_in text before none_yet.made) ∙ ap (code_in text before) n

    full : Filled words at.made
    full = p.filled (ap (λ k. length (instrs_in before k)) n ∙ sym n)

    start : Kept (tokenize idle text) (symbols_of text (stack_of words at)) (tokenize idle text)
        (code_in text words at.made)
    start = rw (stack, code) (kept_start (tokenize idle text))

module _ (text words : List ℕ) (at : Progress) (ts : List Lexeme) (g : Going text words at ts) where
  made_long : length (code_in text words at.made) ≡ at.made
  made_long = length-map (instrs_in words at.made) (means text) ∙ g.filled

  -- how high the stack is, and how long the code
  pub bounded : (at.height ≤ 10 * length text + 1) × (at.made ≤ 3 * length text)
  bounded =
      let r = g.state.room in
      let n = few_words text in
      let h = height (symbols_of text (stack_of words at)) in
      let l = symbols_long text (stack_of words at) in
      let t = tall words at.base at.height in
      let m = made_long in
      (omega arith, omega arith)

  -- the end
  pub done : at.height ≡ 0 → Read text words at.made
  done z =
      let stack : symbols_of text (stack_of words at) ≡ [] =
      ap (λ n. symbols_of text (stack_in words at.base n)) z in
      let o = code_in text words at.made in
      let s : Kept (tokenize idle text) [] ts o =
      subst (λ k. Kept (tokenize idle text) k ts o) stack g.state in
      let b = room_height (tokenize idle text) [] ts o s.room in
      let n = few_words text in
      let m = made_long in
      record { coded = kept_ends text ts o s; filled = g.filled; few = omega arith; grown = omega arith }

  -- one symbol was taken
  module _ (s : Symbol) (below : Progress) (top : Popped words at (Some s) below) where
    rest : List spec.Symbol
    rest = symbols_of text (stack_of words below)

    code : List Instr
    code = code_in text words at.made

    state : Kept (tokenize idle text) (symbol_of text s ∷ rest) ts code
    unfolding rest code
    state = subst (λ (k : List Symbol). Kept (tokenize idle text) (symbols_of text k) ts
        (code_in text words at.made)) top.0 g.state

    -- a step that refuses
    pub failed : spec.fail ≡ spec.step (symbol_of text s) ts → reads text ≡ none
    failed e = kept_fails text (symbol_of text s) rest ts code state (sym e)

    -- a step that goes on
    pub turned : (a : Action) (left : List Lexeme) (words1 : List ℕ) (to : Progress) →
        action_of text a left ≡ spec.step (symbol_of text s) ts →
        Performed (pushed a) (given a) words below words1 to →
        Going text words1 to left × (left_over text words1 to left < left_over text words at ts)
    unfolding rest code
    turned a left words1 to e p =
        let k1 = symbols_of text (stack_of words1 to) in
        let o1 = code_in text words1 to.made in
        let stack : k1 ≡ symbols_of text (pushed a) ++ rest =
        ap (symbols_of text) p.stack ∙ symbols-++ text (pushed a) (stack_of words below) in
        let made : o1 ≡ code ++ map (means text) (given a) =
        p.code text ∙ ap (λ n. code_in text words n ++ map (means text) (given a)) top.3 in
        let x : After (spec.step (symbol_of text s) ts) rest code k1 left o1 =
        subst (λ d. After d rest code k1 left o1) e (after text a left rest k1 code o1 stack made) in
        let r = kept (tokenize idle text) (symbol_of text s) rest ts code k1 left o1 state x in (
          record {
            state = r.0;
            filled = p.filled (subst (Filled words) (sym top.3) g.filled);
            base = p.base ∙ top.2 ∙ g.base;
          },
          subst (λ (k : List Symbol). measure k1 left < measure (symbols_of text k) ts) (sym top.0) r.1,
        )
