-- How many sources and stores a plan has, one driver after another.
use Rattle.std.proofs.Common.{◌≡◌, ℕ, ◌+◌, ◌≤◌, List, ◌∷◌, ◌++◌, length, Option, Some, None, ◌∙◌, ap, sym, arith}
use Rattle.std.specs.List.{fold}
use Rattle.std.proofs.lemmas.List.{length-append, length_push}
use Rattle.sg_outside.specs.declared.request.StoreSpec.{StoreSpec}
use Rattle.sg_source.specs.Inlets.{store_at}
use Rattle.sg_destination.specs.declared.buffers.DiskBuffer.{DiskBuffer}
use Rattle.sg_plan.specs.declared.owner.Owner.{Owner}
use Rattle.sg_plan.specs.declared.driver.Driver.{Driver}
use Rattle.sg_plan.specs.declared.driver.Driver.TheVariants as driver
use Rattle.sg_plan.specs.declared.driver.OwnedDriver.{OwnedDriver}
use Rattle.sg_plan.specs.Parts.{PlanParts, stores_by, buffer_stores, with_one, with_driver}

one-buffer : (buffer : Option DiskBuffer) → length (buffer_stores buffer) ≤ 1
one-buffer None = omega arith
one-buffer (Some buffer) = omega arith

buffer-grows : (stores : List StoreSpec) (buffer : Option DiskBuffer) → length (stores ++ buffer_stores buffer) ≤ length stores + 1
buffer-grows stores buffer = (let p = length-append stores (buffer_stores buffer) in let q = one-buffer buffer in omega arith)

one-store : (store : Option (List ℕ)) → length (stores_by store) ≤ 1
one-store None = omega arith
one-store (Some name) = omega arith

stores-grow : (stores : List StoreSpec) (store : Option (List ℕ)) → length (stores ++ stores_by store) ≤ length stores + 1
stores-grow stores store = (let p = length-append stores (stores_by store) in let q = one-store store in omega arith)

one-source : (parts : PlanParts) (owner : Owner) (one : Driver) → length (with_one parts owner one).sources ≤ length parts.sources + 1
one-source parts owner (driver.Source source) = (let p = length_push parts.sources source in omega arith)
one-source parts owner (driver.Destination dest) = omega arith

one-store-more : (parts : PlanParts) (owner : Owner) (one : Driver) → length (with_one parts owner one).stores ≤ length parts.stores + 1
one-store-more parts owner (driver.Source source) = stores-grow parts.stores (store_at source.place)
one-store-more parts owner (driver.Destination dest) = buffer-grows parts.stores dest.buffer

-- a turn over the drivers that are left
pub turn-parts : (old new end : PlanParts) (owned : OwnedDriver) (all rest : List OwnedDriver) → all ≡ owned ∷ rest → new ≡ with_driver old owned → fold with_driver old all ≡ end → fold with_driver new rest ≡ end
turn-parts old new end owned all rest split is before = ap (λ p. fold with_driver p rest) is ∙ sym (ap (fold with_driver old) split) ∙ before

pub turn-sources : (old new : PlanParts) (owned : OwnedDriver) (all rest : List OwnedDriver) (n : ℕ) → all ≡ owned ∷ rest → new ≡ with_driver old owned → length old.sources + length all ≤ n
    → length new.sources + length rest ≤ n
turn-sources old new owned all rest n split is before =
    (let p = ap (λ (xs : List OwnedDriver). length xs) split in let q = one-source old owned.owner owned.driver in let r = ap (λ (p : PlanParts). length p.sources) is in omega arith)

pub turn-stores : (old new : PlanParts) (owned : OwnedDriver) (all rest : List OwnedDriver) (n : ℕ) → all ≡ owned ∷ rest → new ≡ with_driver old owned → length old.stores + length all ≤ n
    → length new.stores + length rest ≤ n
turn-stores old new owned all rest n split is before =
    (let p = ap (λ (xs : List OwnedDriver). length xs) split in let q = one-store-more old owned.owner owned.driver in let r = ap (λ (p : PlanParts). length p.stores) is in omega arith)
