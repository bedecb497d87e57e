-- Lemmas on words that ask for neither a run nor a drill.
use Rattle.std.proofs.Common.{◌≡◌, ◌≢◌, ℕ, Bool, true, false, List, [], ◌∷◌, codes, Option, Some, None, bytes_eq, if◌then◌else◌, refl, sym, subst}
use Rattle.std.proofs.lemmas.Slice.Eq.{bytes_eq-Decides}
use Rattle.sg_words.specs.Words.{Asked, check, spool, help, version, one_file, trace_of, run_of, drill_of, alone, told_behind}
use Rattle.sg_daemon.specs.Offline.{IsNeither, FirstWordsTell}

either : (b : Bool) (first other : Option Asked) → IsNeither first → IsNeither other → IsNeither (if b then first else other)
either true first other is rest = is
either false first other is rest = rest

unlike : (word name : List ℕ) (b : Bool) → bytes_eq word name ≡ b → word ≢ name → b ≡ false
unlike word name true same differs = absurd (differs ((bytes_eq-Decides word name).0 same))
unlike word name false same differs = refl

-- what stands behind another word doesn't count
other-than : (word name : List ℕ) (first other : Option Asked) → word ≢ name → IsNeither other → IsNeither (if bytes_eq word name then first else other)
other-than word name first other differs rest = subst (λ (b : Bool). IsNeither (if b then first else other)) (sym (unlike word name (bytes_eq word name) refl differs)) rest

one-file : (make : List ℕ → Asked) → ((file : List ℕ) → IsNeither (Some (make file))) → (words : List (List ℕ)) → IsNeither (one_file make words)
one-file make is [] = tt
one-file make is (file ∷ []) = is file
one-file make is (file ∷ other ∷ rest) = tt

traced : (words : List (List ℕ)) → IsNeither (trace_of words)
traced [] = tt
traced (file ∷ []) = tt
traced (file ∷ source ∷ []) = tt
traced (file ∷ source ∷ input ∷ []) = tt
traced (file ∷ source ∷ input ∷ other ∷ rest) = tt

stands-alone : (asked : Asked) → IsNeither (Some asked) → (words : List (List ℕ)) → IsNeither (alone asked words)
stands-alone asked is [] = is
stands-alone asked is (other ∷ rest) = tt

told : (word : List ℕ) (words : List (List ℕ)) → IsNeither (told_behind word words)
told word words =
    either (bytes_eq word (codes "--help")) (alone help words) (if bytes_eq word (codes "--version") then alone version words else None) (stands-alone help tt words)
    (either (bytes_eq word (codes "--version")) (alone version words) None (stands-alone version tt words) tt)

pub first-words-tell : FirstWordsTell
first-words-tell [] begins = tt
first-words-tell (word ∷ words) begins =
    let files = one-file check (λ file. tt) words in
    let stores = one-file spool (λ file. tt) words in
    let behind = told word words in
    either (bytes_eq word (codes "check")) (one_file check words) _ files
    (either (bytes_eq word (codes "trace")) (trace_of words) _ (traced words)
    (other-than word (codes "run") (run_of words) _ begins.0
    (either (bytes_eq word (codes "spool")) (one_file spool words) _ stores
    (other-than word (codes "drill") (drill_of words) (told_behind word words) begins.1 behind))))
