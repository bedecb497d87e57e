-- Names and fields at the front of a text.
use Rattle.std.proofs.Common.{◌≡◌, ℕ, ◌≤◌, List, ◌∷◌, ◌++◌, length, take, drop, refl, sym, ap, ◌∙◌, arith}
use Rattle.std.specs.List.{prefix_len}
use Rattle.std.proofs.Math.Seq.{drop-append_seam}
use Rattle.std.proofs.lemmas.List.{take-append-drop, length-take-le}
use Rattle.sg_msg.specs.Sets.{is_print, is_sd_byte}
use Rattle.sg_r5424.specs.Data.{IsSdName}
use Rattle.sg_r5424.specs.Grammar.{IsField}
use Rattle.sg_r5424.proofs.RunLemmas.{run_len, run_stops, run_passes, cut_same}

pub name_len_is : (text name rest : List ℕ) → IsSdName text name rest → prefix_len is_sd_byte text ≡ length name
name_len_is text name rest h = ap (prefix_len is_sd_byte) h.is_text ∙ run_len is_sd_byte name rest h.named h.ends

pub name_once : (text a b s t : List ℕ) → IsSdName text a s → IsSdName text b t → (a ≡ b) × (s ≡ t)
name_once text a b s t p q =
    cut_same a b s t (sym p.is_text ∙ q.is_text) (sym (name_len_is text a s p) ∙ name_len_is text b t q)

pub name_found : (text : List ℕ) (len : ℕ) → len ≡ prefix_len is_sd_byte text → 1 ≤ len → len ≤ 32 → len ≤ length text → IsSdName text (take len text) (drop len text)
name_found text len e some most within =
    let size = length-take-le len text within in
    record {
      is_text = sym (take-append-drop len text);
      some = omega (arith, size);
      most = omega (arith, size);
      named = rw e (run_passes is_sd_byte text);
      ends = rw e (run_stops is_sd_byte text);
    }

pub field_len_is : (most : ℕ) (text field rest : List ℕ) → IsField most text field rest → prefix_len is_print text ≡ length field
field_len_is most text field rest h = ap (prefix_len is_print) h.is_text ∙ run_len is_print field (32 ∷ rest) h.print refl

pub field_once : (most : ℕ) (text a b s t : List ℕ) → IsField most text a s → IsField most text b t → (a ≡ b) × (s ≡ t)
field_once most text a b s t p q =
    let same = cut_same a b (32 ∷ s) (32 ∷ t) (sym p.is_text ∙ q.is_text) (sym (field_len_is most text a s p) ∙ field_len_is most text b t q) in
    (same.0, ap (drop 1) same.1)

pub field_found : (most : ℕ) (text rest : List ℕ) (len : ℕ) → len ≡ prefix_len is_print text → 1 ≤ len → len ≤ most → len ≤ length text → drop len text ≡ 32 ∷ rest → IsField most text (take len text) rest
field_found most text rest len e some most_is within space =
    let size = length-take-le len text within in
    record {
      is_text = sym (take-append-drop len text) ∙ ap (λ t. take len text ++ t) space;
      some = omega (arith, size);
      most = omega (arith, size);
      print = rw e (run_passes is_print text);
    }

-- behind a field a space stands
pub field_space : (most : ℕ) (text field rest : List ℕ) (len : ℕ) → len ≡ prefix_len is_print text → IsField most text field rest → drop len text ≡ 32 ∷ rest
field_space most text field rest len e h =
    let n : len ≡ length field = e ∙ field_len_is most text field rest h in
    rw (n, h.is_text) (drop-append_seam field (32 ∷ rest))
