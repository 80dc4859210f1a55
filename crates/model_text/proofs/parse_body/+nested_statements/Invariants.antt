use Rattle.std.proofs.Common.{◌+◌, ◌*◌}
use Rattle.model_text.proofs.parse_body.+nested_statements.Given as goal

abbrev pub decreases-block : goal.decreases-block
decreases-block l = 5 * l.depth + 0

abbrev pub decreases-conditional-branches : goal.decreases-conditional-branches
decreases-conditional-branches l = 5 * l.depth + 1

abbrev pub decreases-conditional : goal.decreases-conditional
decreases-conditional l = 5 * l.depth + 2

abbrev pub decreases-looping : goal.decreases-looping
decreases-looping l = 5 * l.depth + 2

abbrev pub decreases-matching-ways : goal.decreases-matching-ways
decreases-matching-ways l = 5 * l.depth + 1

abbrev pub decreases-matching : goal.decreases-matching
decreases-matching l = 5 * l.depth + 2

abbrev pub decreases-statement : goal.decreases-statement
decreases-statement l = 5 * l.depth + 3

abbrev pub decreases-statements : goal.decreases-statements
decreases-statements l = 5 * l.depth + 4
