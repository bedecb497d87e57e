-- How many stores and disks there are.
use Rattle.std.proofs.Common.{◌≡◌, ℕ, Bool, List, length, map, sym, ap, ◌∙◌}
use Rattle.std.proofs.lemmas.List.{length-map}
use Rattle.sg_list.proofs.ListLemmas.{length-change}
use Rattle.sg_device.specs.Disk.{DiskState}
use Rattle.sg_buffer.specs.declared.found.BufferEntries.{BufferEntries}
use Rattle.sg_stores.specs.Appending.{StagesAt, CommitsAt}
use Rattle.sg_stores.specs.Opening.{AreOpened, AreStoresRefused}
use Rattle.sg_stores.specs.Stores.{StoreState}
use Rattle.sg_stores.specs.declared.answers.CoreRefusal.{CoreRefusal}
use Rattle.sg_stores.specs.declared.kind.StoreKind.{StoreKind}

pub stores_length : {D : Type 0} (state : D → DiskState) (kinds : List StoreKind) (disks : List D) (founds : List BufferEntries) (stores : List StoreState) → AreOpened kinds (map state disks) founds stores → length disks ≡ 2 → length stores ≡ 2
stores_length state kinds disks founds stores o two = o.count ∙ length-map disks state ∙ two

pub found_length : {D : Type 0} (state : D → DiskState) (kinds : List StoreKind) (disks : List D) (founds : List BufferEntries) (stores : List StoreState) → AreOpened kinds (map state disks) founds stores → length disks ≡ 2 → length founds ≡ 2
found_length state kinds disks founds stores o two = o.looked ∙ length-map disks state ∙ two

pub back_length : {D : Type 0} (state : D → DiskState) (kinds : List StoreKind) (olds news : List D) (refusal : CoreRefusal) → AreStoresRefused kinds (map state olds) (map state news) refusal → length olds ≡ 2 → length news ≡ 2
back_length state kinds olds news refusal r two = sym (length-map news state) ∙ r.preserved.count ∙ length-map olds state ∙ two

pub stage_length : (olds news : List StoreState) (s : ℕ) (payload : List ℕ) (works : Bool) → StagesAt olds news s payload works → length olds ≡ 2 → length news ≡ 2
stage_length olds news s payload works h two = ap length h.others ∙ length-change olds s (λ _. h.new) ∙ two

pub commit_length : (olds news : List StoreState) (s : ℕ) (works : Bool) → CommitsAt olds news s works → length olds ≡ 2 → length news ≡ 2
commit_length olds news s works h two = ap length h.others ∙ length-change olds s (λ _. h.new) ∙ two

pub disks_length : {D : Type 0} (state : D → DiskState) (disks : List D) (stores : List StoreState) → map state disks ≡ map (λ (store : StoreState). store.disk) stores → length stores ≡ 2 → length disks ≡ 2
disks_length state disks stores same two = sym (length-map disks state) ∙ ap length same ∙ length-map stores (λ (store : StoreState). store.disk) ∙ two
