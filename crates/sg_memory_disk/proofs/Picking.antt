-- Images that are picked are images.
use Rattle.std.proofs.Common.{◌≡◌, inl, ℕ, ◌+◌, ◌-◌, ◌<◌, ◌≤◌, min, Some, List, [], ◌∷◌, ◌++◌, length, get_or, take, replicate, refl, sym, ◌∙◌, ap, subst, arith, length-take}
use Rattle.std.proofs.lemmas.List.{length-replicate, take_more, take_all}
use Rattle.sg_device.specs.Disk.{DiskEvent, Wrote, Tore, Synced, Lost, bytes_after, IsLeftByCrash, IsImage}
use Rattle.sg_device.specs.DiskBytes.{Torn, Written, overlaid}
use Rattle.sg_device.proofs.Parts.{overlaid_by, torn_of_written, torn_refl}
use Rattle.sg_device.proofs.DiskCalls.{torn_wider, image_now}
use Rattle.sg_memory_disk.specs.DiskChange.{event_of, events_of}
use Rattle.sg_memory_disk.specs.Pick.{laid, spliced, pick_at, picked, replayed, reread, unsynced, unsynced_after}
use Rattle.sg_memory_disk.proofs.Changes.{events_of-push}
use Rattle.sg_memory_disk.specs.declared.disk_change.DiskChange.{DiskChange}
use Rattle.sg_memory_disk.specs.declared.pick.Pick.{Pick}
use Rattle.sg_memory_disk.specs.declared.pick.Pick.TheVariants.{Old, New, Ones, Zeros, Bytes}

filled_torn : (byte at n : ℕ) (old : List ℕ) → Torn at n old (overlaid byte at (replicate n byte) old)
filled_torn byte at n old = subst (λ (m : ℕ). Torn at m old (overlaid byte at (replicate n byte) old)) (length-replicate n byte) (torn_of_written at (replicate n byte) old _ (overlaid_by byte at (replicate n byte) old))

-- bytes from before the place on, up to the write's end
torn_from : (at n start : ℕ) (bytes old new : List ℕ) → start ≡ min at (length old) → length bytes ≤ at + n - start → Written start bytes old new → Torn at n old new
torn_from at n start bytes old new is fits w = record {
  before = λ k low high. w.before k low (omega (arith, is, high));
  after = λ k low high. w.after k (omega (arith, is, fits, low)) high;
  no_shorter = omega (arith, w.size);
  no_longer = omega (arith, w.size, is, fits);
}

spliced_torn : (at n : ℕ) (torn old : List ℕ) → Torn at n old (spliced at n torn old)
spliced_torn at n torn old =
    let start = min at (length old) in
    let bytes = take (at + n - start) torn in
    let fits : length bytes ≤ at + n - start = omega (arith, length-take (at + n - start) torn) in
    torn_from at n start bytes old (overlaid 0 start bytes old) refl fits (overlaid_by 0 start bytes old)

laid_torn : (pick : Pick) (at n : ℕ) (bytes old : List ℕ) → length bytes ≤ n → Torn at n old (laid pick at n bytes old)
laid_torn Old at n bytes old fits = torn_refl at n old
laid_torn New at n bytes old fits = torn_wider at (length bytes) n old _ fits (torn_of_written at bytes old _ (overlaid_by 0 at bytes old))
laid_torn Ones at n bytes old fits = filled_torn 255 at n old
laid_torn Zeros at n bytes old fits = filled_torn 0 at n old
laid_torn (Bytes torn) at n bytes old fits = spliced_torn at n torn.items old

pub picked_left : (picks : List Pick) (first : List ℕ) (events : List DiskEvent) → IsLeftByCrash first events (picked picks first events)
picked_left picks first [] = refl
picked_left picks first (Wrote at bytes ∷ earlier) = (picked picks first earlier, picked_left picks first earlier, laid_torn (pick_at picks (unsynced earlier)) at (length bytes) bytes (picked picks first earlier) (omega arith))
picked_left picks first (Tore at n bytes ∷ earlier) = (picked picks first earlier, picked_left picks first earlier, laid_torn (pick_at picks (unsynced earlier)) at n (take n bytes) (picked picks first earlier) (omega (arith, length-take n bytes)))
picked_left picks first (Synced ∷ earlier) = refl
picked_left picks first (Lost left ∷ earlier) = inl (picked_left picks first earlier)

picked-event : (picks : List Pick) (first : List ℕ) (event : DiskEvent) (earlier : List DiskEvent) → picked picks first (event ∷ earlier) ≡ replayed (pick_at picks (unsynced earlier)) event (bytes_after first earlier) (picked picks first earlier)
picked-event picks first (Wrote at bytes) earlier = refl
picked-event picks first (Tore at n bytes) earlier = refl
picked-event picks first Synced earlier = refl
picked-event picks first (Lost left) earlier = refl

bytes_after-event : (first : List ℕ) (event : DiskEvent) (earlier : List DiskEvent) → bytes_after first (event ∷ earlier) ≡ reread event (bytes_after first earlier)
bytes_after-event first (Wrote at bytes) earlier = refl
bytes_after-event first (Tore at n bytes) earlier = refl
bytes_after-event first Synced earlier = refl
bytes_after-event first (Lost left) earlier = refl

unsynced-event : (event : DiskEvent) (earlier : List DiskEvent) → unsynced (event ∷ earlier) ≡ unsynced_after event (unsynced earlier)
unsynced-event (Wrote at bytes) earlier = refl
unsynced-event (Tore at n bytes) earlier = refl
unsynced-event Synced earlier = refl
unsynced-event (Lost left) earlier = refl

pub events_of-more : (changes : List DiskChange) (i : ℕ) (change : DiskChange) → i < length changes → change ≡ get_or changes i change → events_of [] (take (i + 1) changes) ≡ event_of change ∷ events_of [] (take i changes)
events_of-more changes i change lt is = ap (λ (l : List DiskChange). events_of [] l) (take_more changes i change lt ∙ ap (λ (x : DiskChange). take i changes ++ x ∷ []) (sym is)) ∙ events_of-push [] (take i changes) change

-- one change more
module _ (changes : List DiskChange) (i : ℕ) (change : DiskChange) (lt : i < length changes) (is : change ≡ get_or changes i change) where
  pub unsynced_more : (number now : ℕ) → number ≡ unsynced (events_of [] (take i changes)) → now ≡ unsynced_after (event_of change) number → now ≡ unsynced (events_of [] (take (i + 1) changes))
  unsynced_more number now was goes =
      goes
      ∙ ap (λ (n : ℕ). unsynced_after (event_of change) n) was
      ∙ sym (unsynced-event (event_of change) (events_of [] (take i changes)))
      ∙ ap (λ (l : List DiskEvent). unsynced l) (sym (events_of-more changes i change lt is))

  module _ (first : List ℕ) (bytes : List ℕ) (read : bytes ≡ bytes_after first (events_of [] (take i changes))) where
    pub picked_more : (picks : List Pick) (number : ℕ) (image now : List ℕ) → number ≡ unsynced (events_of [] (take i changes)) → image ≡ picked picks first (events_of [] (take i changes)) → now ≡ replayed (pick_at picks number) (event_of change) bytes image → now ≡ picked picks first (events_of [] (take (i + 1) changes))
    picked_more picks number image now counted was goes =
        goes
        ∙ ap (λ (n : ℕ). replayed (pick_at picks n) (event_of change) bytes image) counted
        ∙ ap (λ (l : List ℕ). replayed (pick_at picks (unsynced (events_of [] (take i changes)))) (event_of change) l image) read
        ∙ ap (λ (l : List ℕ). replayed (pick_at picks (unsynced (events_of [] (take i changes)))) (event_of change) (bytes_after first (events_of [] (take i changes))) l) was
        ∙ sym (picked-event picks first (event_of change) (events_of [] (take i changes)))
        ∙ ap (λ (l : List DiskEvent). picked picks first l) (sym (events_of-more changes i change lt is))

    pub bytes_more : (now : List ℕ) → now ≡ reread (event_of change) bytes → now ≡ bytes_after first (events_of [] (take (i + 1) changes))
    bytes_more now goes =
        goes
        ∙ ap (λ (l : List ℕ). reread (event_of change) l) read
        ∙ sym (bytes_after-event first (event_of change) (events_of [] (take i changes)))
        ∙ ap (λ (l : List DiskEvent). bytes_after first l) (sym (events_of-more changes i change lt is))

-- all changes
pub picked_all : (picks : List Pick) (first : List ℕ) (changes : List DiskChange) (i : ℕ) (image : List ℕ) → length changes ≤ i → image ≡ picked picks first (events_of [] (take i changes)) → image ≡ picked picks first (events_of [] changes)
picked_all picks first changes i image le is = is ∙ ap (λ (l : List DiskChange). picked picks first (events_of [] l)) (take_all i changes le)

pub unsynced_all : (changes : List DiskChange) (i number : ℕ) → length changes ≤ i → number ≡ unsynced (events_of [] (take i changes)) → number ≡ unsynced (events_of [] changes)
unsynced_all changes i number le is = is ∙ ap (λ (l : List DiskChange). unsynced (events_of [] l)) (take_all i changes le)

pub picked_image : (picks : List Pick) (first : List ℕ) (events : List DiskEvent) (f : ℕ) (image : List ℕ) → image ≡ picked picks first events → IsImage (record { told = Some (record { first = first; events = events }); faults = f }) image
picked_image picks first events f image is = image_now (record { first = first; events = events }) f image (subst (λ (l : List ℕ). IsLeftByCrash first events l) (sym is) (picked_left picks first events))
