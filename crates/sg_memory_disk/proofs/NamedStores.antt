-- Stores that are there.
use Rattle.std.proofs.Common.{◌≡◌, inl, inr, ℕ, List, ◌∷◌, replicate, refl, sym, subst}
use Rattle.std.specs.Prelude.{Option, Some, None, Bool, true, false, not, ◌||◌, ◌&&◌, is_none, if◌then◌else◌, unwrap_or, IfSome}
use Rattle.std.specs.List.{Contains}
use Rattle.std.specs.Str.{bytes_eq}
use Rattle.std.proofs.lemmas.Map.Views.{Contains-from_any}
use Rattle.std.proofs.lemmas.Slice.Eq.{bytes_eq-Decides}
use Rattle.sg_device.specs.Disk.{DiskState, fresh_log}
use Rattle.sg_outside.specs.World.{IsStoreNamed}
use Rattle.sg_outside.specs.declared.request.StoreSpec.{StoreSpec}
use Rattle.sg_memory_disk.specs.MemoryDisk.{fresh_disk}
use Rattle.sg_memory_disk.specs.Stores.{is_named}

same-bytes : (x y : List ℕ) → bytes_eq y x ≡ true → x ≡ y
same-bytes x y is = sym ((bytes_eq-Decides y x).0 is)

named_contains : (names : List (List ℕ)) (name : List ℕ) → is_named names name ≡ true → Contains names name
named_contains names name is = Contains-from_any same-bytes name names is

-- the store is there, or it comes to be
pub names_stand : (spec : StoreSpec) (names after : List (List ℕ)) (there create : Bool) (latest : Option DiskState) (disk : DiskState) → there ≡ is_named names spec.name → create ≡ spec.create → is_none (if there then latest else None) && (there || not create) ≡ false → disk ≡ unwrap_or (if there then latest else None) (fresh_disk (replicate 128 0)) → after ≡ (if there then names else spec.name ∷ names) → IsStoreNamed names spec disk after
names_stand spec names after true create None disk named made open_ is goes = let wrong : true ≡ false = open_ in cc
names_stand spec names after true create (Some state) disk named made open_ is goes = inl (named_contains names spec.name (sym named), goes)
names_stand spec names after false true latest disk named made open_ is goes = inr (sym made, subst (λ (d : DiskState). IfSome d.told (λ log. log ≡ fresh_log (replicate 128 0))) (sym is) refl, goes)
names_stand spec names after false false latest disk named made open_ is goes = let wrong : true ≡ false = open_ in cc
