use Rattle.std.proofs.Common.{◌≡◌, ◌+◌, ◌*◌, ◌-◌}
use Rattle.sg_parse_base.specs.Lists.{body, body_from}
use Rattle.sg_parse_path.specs.Paths.{block, channel, arms, arms_from, pieces, pieces_from}
use Rattle.sg_parse_path.proofs.path.+path.Given as goal

abbrev pub decreases-block : goal.decreases-block
decreases-block l = 16 * l.depth

abbrev pub decreases-worded : goal.decreases-worded
decreases-worded l = 16 * l.depth + 1

abbrev pub decreases-arm : goal.decreases-arm
decreases-arm l = 16 * l.depth + 1

abbrev pub decreases-other : goal.decreases-other
decreases-other l = 16 * l.depth + 1

abbrev pub decreases-channels : goal.decreases-channels
decreases-channels l = 16 * l.depth + 2

abbrev pub decreases-arms : goal.decreases-arms
decreases-arms l = 16 * l.depth + 2

abbrev pub decreases-embedded : goal.decreases-embedded
decreases-embedded l = 16 * l.depth + 2

abbrev pub decreases-junction : goal.decreases-junction
decreases-junction l = 16 * l.depth + 3

abbrev pub decreases-conditional : goal.decreases-conditional
decreases-conditional l = 16 * l.depth + 3

abbrev pub decreases-element : goal.decreases-element
decreases-element l = 16 * l.depth + 4

abbrev pub decreases-read_piece : goal.decreases-read_piece
decreases-read_piece l = 16 * l.depth + 5

abbrev pub decreases-pieces : goal.decreases-pieces
decreases-pieces l = 16 * l.depth + 6

abbrev pub decreases-braced : goal.decreases-braced
decreases-braced l = 16 * l.depth + 7

abbrev pub invariant-channels-loop-turn : goal.invariant-channels-loop-turn
invariant-channels-loop-turn l =
    body (channel (block l.depth)) l.fn.cursor ≡ body_from (channel (block l.depth)) (l._turn-end - l._turn) l.found l.cursor

abbrev pub invariant-arms-loop-turn : goal.invariant-arms-loop-turn
invariant-arms-loop-turn l = arms l.depth (block l.depth) l.fn.cursor ≡ arms_from l.depth (block l.depth) (l._turn-end - l._turn) l.found l.cursor

abbrev pub invariant-pieces-loop-turn : goal.invariant-pieces-loop-turn
invariant-pieces-loop-turn l =
    pieces l.depth (block l.depth) l.fn.first l.fn.cursor ≡ pieces_from l.depth (block l.depth) (l._turn-end - l._turn) l.stage l.found l.cursor
