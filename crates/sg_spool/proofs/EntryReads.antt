-- A read that may give fewer bytes than an entry has.
use Rattle.std.proofs.Common.{◌≡◌, ◌∙◌, ◌+◌, ◌≤◌, ◌^◌, ℕ, max, List, length, take, length-take, arith}
use Rattle.std.proofs.lemmas.List.{take_all}
use Rattle.sg_device.specs.DiskBytes.{AreBytesRead}
use Rattle.sg_spool.specs.Ring.{IsEntry, IsPayload}
use Rattle.sg_spool.proofs.Walking.{payload_there}

-- of an entry that is there all bytes are read
pub payload_read : (gate at count : ℕ) (b before after p : List ℕ) → IsEntry b gate p → at ≡ gate + 5 → length before ≡ length p → length after ≡ length before → AreBytesRead at b before after count → take (max count 1) after ≡ p
payload_read gate at count b before after p entry is long same r =
    let all : count ≡ length p = omega (arith, r.filled, is, long, entry.next) in
    let some = entry.fits.some in
    take_all (max count 1) after (omega (arith, all, some, long, same)) ∙ payload_there gate at count b before after p entry is long same r

-- and of each some are
pub fits_read : (count : ℕ) (after : List ℕ) → 1 ≤ length after → length after ≤ 2 ^ 30 + 64 → IsPayload (take (max count 1) after)
fits_read count after some limit =
    let long = length-take (max count 1) after in
    record { some = omega (arith, long, some); limit = omega (arith, long, limit) }
