use Rattle.std.proofs.Common.{◌+◌, ◌*◌}
use Rattle.model_text.proofs.parse_body.+nested_bodies.Given as goal

abbrev pub decreases-body : goal.decreases-body
decreases-body l = 4 * l.depth + 0

abbrev pub decreases-giving_if-branches : goal.decreases-giving_if-branches
decreases-giving_if-branches l = 4 * l.depth + 1

abbrev pub decreases-giving_if : goal.decreases-giving_if
decreases-giving_if l = 4 * l.depth + 2

abbrev pub decreases-giving_match-ways : goal.decreases-giving_match-ways
decreases-giving_match-ways l = 4 * l.depth + 1

abbrev pub decreases-giving_match : goal.decreases-giving_match
decreases-giving_match l = 4 * l.depth + 2

abbrev pub decreases-tail : goal.decreases-tail
decreases-tail l = 4 * l.depth + 3
