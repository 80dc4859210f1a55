use Rattle.std.proofs.Common.{◌≡◌, ℕ, List, ap, ◌∙◌, rules}
use Rattle.std.proofs.lemmas.Slice.Eq.{slice_eq-Decides, compares_Decides}
use Rattle.std.proofs.lemmas.Bool.Decides.{same_from_decides, Decides-eqb}
use Rattle.language.specs.Base.{same}
use Rattle.lexer.specs.Spelling.{spelling}
use Rattle.tables.proofs.key.RefSliceU8Key.names.Goals as goal

pub returns : goal.returns
returns c =
    let equal = slice_eq-Decides Decides-eqb c.name_bytes.result.now c.args.self.now _ c.eq.ensures in
    let told : c.eq.result ≡ same (spelling c.args.text.now c.args.name) c.args.self.now =
    same_from_decides _ _ equal (compares_Decides same (search rules) _ _) ∙ ap (λ (w : List ℕ). same w c.args.self.now) c.name_bytes.ensures in
    search (rules, told)
