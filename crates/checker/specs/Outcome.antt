-- What a test that may refuse says.
use Rattle.std.specs.Prelude.{◌≡◌, Bool, true, false, Ok, Err, Result}
use Rattle.checker.specs.declared.state.Rule.{Rule}

abbrev pub Holds : Bool → Result Unit Rule → Type 0
Holds b (Ok u) = b ≡ true
Holds b (Err e) = b ≡ false
