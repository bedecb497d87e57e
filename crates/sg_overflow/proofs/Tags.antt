-- Payloads that are those of frames.
use Rattle.std.proofs.Common.{◌≡◌, ◌∙◌, ◌∷◌, ◌++◌, [], ℕ, suc, List, map, take, drop, ap, subst, sym, arith, Option, true, false}
use Rattle.std.proofs.lemmas.Grind.{common_steps}
use Rattle.std.proofs.lemmas.List.{map-append, take-append-drop}
use Rattle.std.specs.Prelude.{◌==◌}
use Rattle.sg_spool.specs.Places.{Remains}
use Rattle.sg_spool.specs.Ring.{Entries, IsLaid}
use Rattle.sg_overflow.specs.Opening.{IsUntagged}
use Rattle.sg_overflow.specs.Payload.{tagged, untagged, is_tagged, frames_in, AreTagged}
use Rattle.sg_overflow.proofs.Walks.{take_next}

same_tag : (tag : ℕ) → (tag == 3) ≡ true → 3 ≡ tag
same_tag tag is = grind (arith, common_steps, is)

tag_back : (payload : List ℕ) → is_tagged payload ≡ true → tagged (untagged payload) ≡ payload
tag_back [] is = absurd (let no : false ≡ true = is in cc)
tag_back (tag ∷ frame) is = ap (λ (t : ℕ). t ∷ frame) (same_tag tag is)

pub tagged_next : (k : ℕ) (entries : Entries) (payload : List ℕ) (rest : Entries) → AreTagged (take k entries) → is_tagged payload ≡ true → drop k entries ≡ payload ∷ rest → AreTagged (take (suc k) entries)
tagged_next k entries payload rest same is at =
    subst (λ (es : Entries). map tagged (frames_in es) ≡ es) (take_next k entries payload rest at).0
    (ap (map tagged) (map-append untagged (take k entries) (payload ∷ []))
    ∙ map-append tagged (frames_in (take k entries)) (untagged payload ∷ [])
    ∙ ap (λ (es : Entries). es ++ tagged (untagged payload) ∷ []) same
    ∙ ap (λ (p : List ℕ). take k entries ++ p ∷ []) (tag_back payload is))

pub untagged_at : (bytes : List ℕ) (jump : Option ℕ) (head end gate k : ℕ) (entries : Entries) (payload : List ℕ) (rest : Entries) → IsLaid jump head end entries bytes → Remains bytes jump gate (drop k entries) end
    → AreTagged (take k entries) → drop k entries ≡ payload ∷ rest → is_tagged payload ≡ false → IsUntagged gate bytes
untagged_at bytes jump head end gate k entries payload rest laid remains same at bad = record {
  jump = jump;
  head = head;
  end = end;
  before = take k entries;
  payload = payload;
  rest = rest;
  laid = subst (λ (es : Entries). IsLaid jump head end es bytes) (sym (ap (λ (es : Entries). take k entries ++ es) (sym at) ∙ take-append-drop k entries)) laid;
  remains = subst (λ (es : Entries). Remains bytes jump gate es end) at remains;
  others = same;
  bad = bad;
}
