-- Lemmas on scans of the bytes kept.
use Rattle.std.proofs.Common.{◌≡◌, ◌≢◌, ℕ, suc, zero, ◌+◌, ◌-◌, ◌<◌, ◌≤◌, List, [], ◌∷◌, ◌++◌, length, take, drop, get_or, true, false, refl, ap, sym, ◌∙◌, subst, arith, eq-eqb, add-one, inl, inr}
use Rattle.std.specs.Prelude.{ℤ, pos, slice_range, ◌==◌}
use Rattle.std.proofs.Math.Seq.{drop-length}
use Rattle.std.proofs.lemmas.Bool.{ne_eqb, eqb-true, cases_lt}
use Rattle.std.proofs.lemmas.List.{take_more, drop-take, take-take, length-take-le, length-map, get_or-take, get_or-drop}
use Rattle.sg_device.specs.Inlet.{Stamped}
use Rattle.sg_frame.specs.declared.kind.FrameKind.{FrameKind}
use Rattle.sg_frame.specs.declared.kind.FrameKind.TheVariants.{Lines}
use Rattle.sg_frame.specs.Items.{Item, Form, Text, Bad, IsSoundForm, trimmed, item_of, item_at, open_at, items, open_after, beginning}
use Rattle.sg_frame.specs.Scans.{plain, Continues, ReachesForm, HasNone, HasBad, IsItem}
use Rattle.sg_frame.specs.Kept.{IsScanned}
use Rattle.sg_frame.proofs.ItemLemmas.{items-bad, open_after-bad, take-trimmed, length-trimmed-le}

length-plain : (held : List Stamped) (bytes : List ℕ) → plain held ≡ bytes → length held ≡ length bytes
length-plain held bytes e = sym (length-map held (λ (b : Stamped). b.0)) ∙ ap length e

-- the byte at a place, with its moment, before the rest
split : (held : List Stamped) (i : ℕ) → i < length held
    → drop i held ≡ (get_or (plain held) i 0, (get_or held i (0, pos 0)).1) ∷ drop (i + 1) held
split held i h = rw add-one (split-suc held i h)
  where
    split-suc : (held : List Stamped) (i : ℕ) → i < length held → drop i held ≡ (get_or (plain held) i 0, (get_or held i (0, pos 0)).1) ∷ drop (suc i) held
    split-suc [] i h = absurd (omega arith)
    split-suc (b ∷ held) zero h = refl
    split-suc (b ∷ held) (suc i) h = split-suc held i (omega arith)

-- a byte that makes nothing whole
items-step : (limit place : ℕ) (form next : Form) (b : ℕ) (at : ℤ) (rest : List Stamped)
    → item_at limit place form (b, at) ≡ [] → open_at limit place form b ≡ next
    → items limit place form ((b, at) ∷ rest) ≡ items limit (place + 1) next rest
items-step limit place form next b at rest none opens =
    ap (λ r. r ++ items limit (place + 1) (open_at limit place form b) rest) none ∙ ap (λ f. items limit (place + 1) f rest) opens

-- a byte that makes an item whole
items-whole : (limit place : ℕ) (form next : Form) (b : ℕ) (at : ℤ) (rest : List Stamped) (item : Item)
    → item_at limit place form (b, at) ≡ item ∷ [] → open_at limit place form b ≡ next
    → items limit place form ((b, at) ∷ rest) ≡ item ∷ items limit (place + 1) next rest
items-whole limit place form next b at rest item whole opens =
    ap (λ r. r ++ items limit (place + 1) (open_at limit place form b) rest) whole ∙ ap (λ f. item ∷ items limit (place + 1) f rest) opens

pub reach_none : (kind : FrameKind) (limit : ℕ) (bytes : List ℕ) → ReachesForm kind limit bytes 0 (beginning kind)
reach_none kind limit bytes place held e =
    let same : place ≡ place + 0 = omega arith in
    record { items = ap (λ n. items limit n (beginning kind) held) same; still_open = ap (λ n. open_after limit n (beginning kind) held) same }

-- what stands behind the bytes reached, the next one apart
ahead : (kind : FrameKind) (limit : ℕ) (bytes : List ℕ) (i : ℕ) (form : Form) → ReachesForm kind limit bytes i form → i < length bytes
    → (place : ℕ) (held : List Stamped) → plain held ≡ bytes
    → Continues kind limit place held [] (place + i) form ((get_or bytes i 0, (get_or held i (0, pos 0)).1) ∷ drop (i + 1) held)
ahead kind limit bytes i form reaches within place held e =
    let below : i < length held = omega (arith, length-plain held bytes e) in
    let parts : drop i held ≡ (get_or bytes i 0, (get_or held i (0, pos 0)).1) ∷ drop (i + 1) held =
    split held i below ∙ ap (λ bs. (get_or bs i 0, (get_or held i (0, pos 0)).1) ∷ drop (i + 1) held) e in
    let so = reaches place held e in
    record {
      items = so.items ∙ ap (λ rest. items limit (place + i) form rest) parts;
      still_open = so.still_open ∙ ap (λ rest. open_after limit (place + i) form rest) parts;
    }

pub reach_more : (kind : FrameKind) (limit : ℕ) (bytes : List ℕ) (i : ℕ) (form next : Form)
    → ReachesForm kind limit bytes i form → i < length bytes
    → ((place : ℕ) (at : ℤ) → item_at limit place form (get_or bytes i 0, at) ≡ [])
    → ((place : ℕ) → open_at limit place form (get_or bytes i 0) ≡ next)
    → ReachesForm kind limit bytes (i + 1) next
reach_more kind limit bytes i form next reaches within none opens place held e =
    let so = ahead kind limit bytes i form reaches within place held e in
    let at = (get_or held i (0, pos 0)).1 in
    let sum : place + i + 1 ≡ place + (i + 1) = omega arith in
    record {
      items = so.items ∙ items-step limit (place + i) form next (get_or bytes i 0) at (drop (i + 1) held) (none (place + i) at) (opens (place + i))
          ∙ ap (λ n. items limit n next (drop (i + 1) held)) sum;
      still_open = so.still_open ∙ ap (λ f. open_after limit (place + i + 1) f (drop (i + 1) held)) (opens (place + i))
          ∙ ap (λ n. open_after limit n next (drop (i + 1) held)) sum;
    }

-- the bytes reached are all there are
pub none_whole : (kind : FrameKind) (limit : ℕ) (bytes : List ℕ) (form : Form) → ReachesForm kind limit bytes (length bytes) form → IsSoundForm form → HasNone kind limit bytes
none_whole kind limit bytes form reaches sound place held e =
    let so = reaches place held e in
    let all : drop (length bytes) held ≡ [] = ap (λ n. drop n held) (sym (length-plain held bytes e)) ∙ drop-length held in (
      so.items ∙ ap (λ rest. items limit (place + length bytes) form rest) all,
      subst IsSoundForm (sym (so.still_open ∙ ap (λ rest. open_after limit (place + length bytes) form rest) all)) sound,
    )

-- the next byte is bad
pub bad_next : (kind : FrameKind) (limit : ℕ) (bytes : List ℕ) (i : ℕ) (form : Form)
    → ReachesForm kind limit bytes i form → i < length bytes
    → ((place : ℕ) (at : ℤ) → item_at limit place form (get_or bytes i 0, at) ≡ [])
    → ((place : ℕ) → open_at limit place form (get_or bytes i 0) ≡ Bad place)
    → HasBad kind limit bytes i
bad_next kind limit bytes i form reaches within none opens = (
  within,
  λ place held e.
      let so = ahead kind limit bytes i form reaches within place held e in
      let at = (get_or held i (0, pos 0)).1 in (
        so.items ∙ items-step limit (place + i) form (Bad (place + i)) (get_or bytes i 0) at (drop (i + 1) held) (none (place + i) at) (opens (place + i))
            ∙ items-bad limit (place + i + 1) (place + i) (drop (i + 1) held),
        so.still_open ∙ ap (λ f. open_after limit (place + i + 1) f (drop (i + 1) held)) (opens (place + i))
            ∙ open_after-bad limit (place + i + 1) (place + i) (drop (i + 1) held),
      ),
)

-- the next byte makes an item whole, with which everything up to it is taken
pub whole_next : (kind : FrameKind) (limit : ℕ) (bytes : List ℕ) (i : ℕ) (form : Form) (text : List ℕ)
    → ReachesForm kind limit bytes i form → i < length bytes
    → ((place : ℕ) (at : ℤ) → item_at limit place form (get_or bytes i 0, at) ≡ item_of text at (place + 1))
    → ((place : ℕ) → open_at limit place form (get_or bytes i 0) ≡ beginning kind)
    → (place : ℕ) (held : List Stamped) → plain held ≡ bytes
    → Continues kind limit place held (item_of text ((get_or held i (0, pos 0)).1) (place + (i + 1))) (place + (i + 1)) (beginning kind) (drop (i + 1) held)
whole_next kind limit bytes i form text reaches within whole opens place held e =
    let so = ahead kind limit bytes i form reaches within place held e in
    let at = (get_or held i (0, pos 0)).1 in
    let sum : place + i + 1 ≡ place + (i + 1) = omega arith in
    record {
      items = so.items
          ∙ items-whole limit (place + i) form (beginning kind) (get_or bytes i 0) at (drop (i + 1) held) (record { text = text; at = at; end = place + i + 1 }) (whole (place + i) at) (opens (place + i))
          ∙ ap (λ n. item_of text at n ++ items limit n (beginning kind) (drop (i + 1) held)) sum;
      still_open = so.still_open ∙ ap (λ f. open_after limit (place + i + 1) f (drop (i + 1) held)) (opens (place + i))
          ∙ ap (λ n. open_after limit n (beginning kind) (drop (i + 1) held)) sum;
    }

-- the next byte makes an item of those before it whole, and begins the next
pub cut_next : (limit : ℕ) (bytes : List ℕ) (i : ℕ) (line : List ℕ)
    → 0 < limit → ReachesForm Lines limit bytes i (Text line) → i < length bytes → length line ≡ limit → get_or bytes i 0 ≢ 10
    → (place : ℕ) (held : List Stamped) → plain held ≡ bytes
    → Continues Lines limit place held (item_of (trimmed line) ((get_or held i (0, pos 0)).1) (place + i)) (place + i) (Text []) (drop i held)
cut_next limit bytes i line some reaches within full no_feed place held e =
    let so = ahead Lines limit bytes i (Text line) reaches within place held e in
    let b = get_or bytes i 0 in
    let at = (get_or held i (0, pos 0)).1 in
    let rest = drop (i + 1) held in
    let plain_byte : (b == 10) ≡ false = ne_eqb b 10 no_feed in
    let is_full : (length line == limit) ≡ true = eq-eqb (length line) limit full in
    let not_full : (0 == limit) ≡ false = ne_eqb 0 limit (λ h. omega arith) in
    let below : i < length held = omega (arith, length-plain held bytes e) in
    let parts : (b, at) ∷ rest ≡ drop i held = sym (split held i below ∙ ap (λ bs. (get_or bs i 0, at) ∷ rest) e) in
    let whole : item_at limit (place + i) (Text line) (b, at) ≡ item_of (trimmed line) at (place + i) = rw (plain_byte, is_full) refl in
    let opens : open_at limit (place + i) (Text line) b ≡ Text (b ∷ []) = rw (plain_byte, is_full) refl in
    let none : item_at limit (place + i) (Text []) (b, at) ≡ [] = rw (plain_byte, not_full) refl in
    let begins : open_at limit (place + i) (Text []) b ≡ Text (b ∷ []) = rw (plain_byte, not_full) refl in
    record {
      items = so.items
          ∙ items-whole limit (place + i) (Text line) (Text (b ∷ [])) b at rest (record { text = trimmed line; at = at; end = place + i }) whole opens
          ∙ ap (λ r. item_of (trimmed line) at (place + i) ++ r) (sym (items-step limit (place + i) (Text []) (Text (b ∷ [])) b at rest none begins))
          ∙ ap (λ r. item_of (trimmed line) at (place + i) ++ items limit (place + i) (Text []) r) parts;
      still_open = so.still_open ∙ ap (λ f. open_after limit (place + i + 1) f rest) (opens ∙ sym begins)
          ∙ ap (λ r. open_after limit (place + i) (Text []) r) parts;
    }

-- bytes without LF, no more than the limit, are an open line
pub reach_line : (limit : ℕ) (bytes : List ℕ) (k : ℕ) → k ≤ length bytes → k ≤ limit
    → ((j : ℕ) → j < k → get_or bytes j 0 ≢ 10) → ReachesForm Lines limit bytes k (Text (take k bytes))
reach_line limit bytes zero within most no_feed = reach_none Lines limit bytes
reach_line limit bytes (suc k) within most no_feed =
    let before : k < length bytes = omega arith in
    let last : k < suc k = omega arith in
    let plain_byte : (get_or bytes k 0 == 10) ≡ false = ne_eqb (get_or bytes k 0) 10 (no_feed k last) in
    let room : (length (take k bytes) == limit) ≡ false = ne_eqb (length (take k bytes)) limit (λ h. omega (arith, length-take-le k bytes (omega arith))) in
    let more : take k bytes ++ get_or bytes k 0 ∷ [] ≡ take (suc k) bytes = sym (take_more bytes k 0 before) ∙ ap (λ n. take n bytes) (add-one k) in
    let earlier : ReachesForm Lines limit bytes k (Text (take k bytes)) = reach_line limit bytes k (omega arith) (omega arith) (λ j h. no_feed j (omega arith)) in
    subst (λ n. ReachesForm Lines limit bytes n (Text (take (suc k) bytes))) (add-one k)
    (reach_more Lines limit bytes k (Text (take k bytes)) (Text (take (suc k) bytes)) earlier before
    (λ place at. rw (plain_byte, room) refl)
    (λ place. rw (plain_byte, room) (ap Text more)))

-- no LF among the bytes scanned before, nor ahead of them in the window
pub no_feed_below : (bytes : List ℕ) (scanned most found : ℕ) → scanned + found ≤ most
    → ((k : ℕ) → k < scanned → get_or bytes k 0 ≢ 10)
    → ((k : ℕ) → 0 ≤ k → k < found → (get_or (take (most - scanned) (drop scanned bytes)) k 0 == 10) ≡ true → ⊥)
    → (k : ℕ) → k < scanned + found → get_or bytes k 0 ≢ 10
no_feed_below bytes scanned most found within before ahead k h =
    elim (cases_lt k scanned) [
      | inl low ↦ before k low
      | inr high ↦ λ is.
          let i : scanned + (k - scanned) ≡ k = omega arith in
          let same : get_or (take (most - scanned) (drop scanned bytes)) (k - scanned) 0 ≡ 10 =
          get_or-take (most - scanned) (drop scanned bytes) (k - scanned) 0 (omega arith) ∙ get_or-drop scanned bytes (k - scanned) 0 ∙ ap (λ n. get_or bytes n 0) i ∙ is in
          ahead (k - scanned) (omega arith) (omega arith) (eq-eqb _ 10 same)
    ]

pub window-at : (bytes : List ℕ) (scanned most i : ℕ) → i < most - scanned → (get_or (take (most - scanned) (drop scanned bytes)) i 0 == 10) ≡ true → get_or bytes (scanned + i) 0 ≡ 10
window-at bytes scanned most i h is =
    sym (get_or-take (most - scanned) (drop scanned bytes) i 0 h ∙ get_or-drop scanned bytes i 0) ∙ eqb-true (get_or (take (most - scanned) (drop scanned bytes)) i 0) 10 is

-- the front of the bytes that is the text of a line
text-front : (bytes : List ℕ) (n to : ℕ) → n ≤ length bytes → to ≡ length (trimmed (take n bytes)) → trimmed (take n bytes) ≡ slice_range bytes 0 to
text-front bytes n to within is =
    let short : to ≤ n = omega (arith, length-trimmed-le (take n bytes), length-take-le n bytes within) in
    let same : to ≡ to - 0 = omega arith in
    sym (take-trimmed (take n bytes)) ∙ ap (λ m. take m (take n bytes)) (sym is) ∙ take-take to n bytes short ∙ ap (λ m. take m bytes) same

pub line_item : (limit : ℕ) (bytes : List ℕ) (end to : ℕ) → end < length bytes → end ≤ limit
    → ((k : ℕ) → k < end → get_or bytes k 0 ≢ 10) → get_or bytes end 0 ≡ 10 → to ≡ length (trimmed (take end bytes))
    → IsItem Lines limit bytes (record { from = 0; to = to; taken = end + 1; last = end })
line_item limit bytes end to within most no_feed feed is =
    let ends : (get_or bytes end 0 == 10) ≡ true = eq-eqb (get_or bytes end 0) 10 feed in
    let text = text-front bytes end to (omega arith) is in
    record {
      from = omega arith;
      to = omega (arith, length-trimmed-le (take end bytes), length-take-le end bytes (omega arith));
      last = within;
      some = omega arith;
      taken = (omega arith, omega arith);
      first = subst (λ t. (place : ℕ) (held : List Stamped) → plain held ≡ bytes
          → Continues Lines limit place held (item_of t ((get_or held end (0, pos 0)).1) (place + (end + 1))) (place + (end + 1)) (Text []) (drop (end + 1) held)) text
          (whole_next Lines limit bytes end (Text (take end bytes)) (trimmed (take end bytes)) (reach_line limit bytes end (omega arith) most no_feed) within
          (λ place at. rw ends refl) (λ place. rw ends refl));
    }

pub line_cut : (limit : ℕ) (bytes : List ℕ) (to : ℕ) → 0 < limit → limit < length bytes
    → ((k : ℕ) → k < limit + 1 → get_or bytes k 0 ≢ 10) → to ≡ length (trimmed (take limit bytes))
    → IsItem Lines limit bytes (record { from = 0; to = to; taken = limit; last = limit })
line_cut limit bytes to some within no_feed is =
    let text = text-front bytes limit to (omega arith) is in
    record {
      from = omega arith;
      to = omega (arith, length-trimmed-le (take limit bytes), length-take-le limit bytes (omega arith));
      last = within;
      some = omega arith;
      taken = (omega arith, omega arith);
      first = subst (λ t. (place : ℕ) (held : List Stamped) → plain held ≡ bytes
          → Continues Lines limit place held (item_of t ((get_or held limit (0, pos 0)).1) (place + limit)) (place + limit) (Text []) (drop limit held)) text
          (cut_next limit bytes limit (take limit bytes) some (reach_line limit bytes limit (omega arith) (omega arith) (λ k h. no_feed k (omega arith))) within
          (length-take-le limit bytes (omega arith)) (no_feed limit (omega arith)));
    }

pub line_open : (limit : ℕ) (bytes : List ℕ) → IsScanned limit bytes (length bytes) → HasNone Lines limit bytes
line_open limit bytes scan =
    none_whole Lines limit bytes (Text (take (length bytes) bytes)) (reach_line limit bytes (length bytes) (omega arith) scan.below scan.no_feed) tt

pub not_scanned : (limit : ℕ) (bytes : List ℕ) → IsScanned limit bytes 0
not_scanned limit bytes = record { within = omega arith; below = omega arith; no_feed = λ k h is. absurd (omega arith) }

pub slice-range : (bytes : List ℕ) (from to : ℕ) → from ≤ to → drop from (take to bytes) ≡ slice_range bytes from to
slice-range bytes from to h =
    let sum : to ≡ from + (to - from) = omega arith in
    ap (λ n. drop from (take n bytes)) sum ∙ drop-take from (to - from) bytes
