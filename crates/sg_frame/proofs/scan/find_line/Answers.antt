use Rattle.std.proofs.Common.{◌≡◌, ◌+◌, ◌-◌, ◌<◌, length, drop, min, arith, ap, length-drop}
use Rattle.std.proofs.lemmas.List.{length-take}
use Rattle.sg_frame.specs.Kept.{IsScanned}
use Rattle.sg_frame.proofs.ScanLemmas.{no_feed_below, window-at, line_item, line_cut, line_open}
use Rattle.sg_frame.proofs.scan.find_line.Goals as goal

-- src/scan.rt:68:9
pub returns-in-Some : goal.returns-in-Some
returns-in-Some c =
    let bytes = c.args.bytes.now in
    let scanned = c.args.scanned in
    let found = c.in-Some.ahead in
    let most : c.min.result ≡ min (length bytes) (c.args.limit + 1) = c.min.ensures in
    let high = c.in-Some.ensures.0.high in
    let inside : found < c.min.result - scanned = omega (arith, high, length-take (c.min.result - scanned) (drop scanned bytes)) in
    line_item c.args.limit bytes (scanned + found) (length c.trim.result.now) (omega arith) (omega arith)
    (no_feed_below bytes scanned c.min.result found (omega arith) c.requires.scanned.no_feed c.in-Some.ensures.0.before)
    (window-at bytes scanned c.min.result found inside c.in-Some.ensures.1)
    (ap length c.trim.ensures)

one_line : (c : goal.Then-bytes-limit) → IsScanned c.args.limit c.args.bytes.now (length c.args.bytes.now)
one_line c =
    let bytes = c.args.bytes.now in
    let most : c.min.result ≡ min (length bytes) (c.args.limit + 1) = c.min.ensures in
    let short = c.if-bytes-limit.true in
    let none = c.in_default.ensures in
    let window = length-take (c.min.result - c.args.scanned) (drop c.args.scanned bytes) in
    record {
      within = omega arith;
      below = c.if-bytes-limit.true;
      no_feed = λ k h. no_feed_below bytes c.args.scanned c.min.result (c.min.result - c.args.scanned) (omega arith) c.requires.scanned.no_feed
          (λ j low below. none j low (omega (arith, window, length-drop c.args.scanned bytes))) k (omega arith);
    }

-- src/scan.rt:76:9
pub returns-then-bytes-limit : goal.returns-then-bytes-limit
returns-then-bytes-limit c = (line_open c.args.limit c.args.bytes.now (one_line c), one_line c)

-- src/scan.rt:56:1
pub returns : goal.returns
returns c =
    let bytes = c.args.bytes.now in
    let limit = c.args.limit in
    let most : c.min.result ≡ min (length bytes) (limit + 1) = c.min.ensures in
    let none = c.in_default.ensures in
    let long = c.if-bytes-limit.false in
    let window = length-take (c.min.result - c.args.scanned) (drop c.args.scanned bytes) in
    line_cut limit bytes (length c.trim-2.result.now) c.requires.some (omega arith)
    (λ k h. no_feed_below bytes c.args.scanned c.min.result (c.min.result - c.args.scanned) (omega arith) c.requires.scanned.no_feed
    (λ j low below. none j low (omega (arith, window, length-drop c.args.scanned bytes))) k (omega arith))
    (ap length c.trim-2.ensures)
