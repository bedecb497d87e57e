-- A message made anew of the pairs that aren't picked.
use Rattle.std.proofs.Common.{◌≡◌, ◌+◌, ℕ, Bool, true, false, List, [], ◌∷◌, ◌++◌, drop, slice_get, Some, bytes_eq, refl, sym, ap, subst, ◌∙◌, append_assoc}
use Rattle.std.specs.declared.cmp.Ordering.TheVariants.{Less}
use Rattle.sg_msg.specs.Message.{Content, NameValue, byte_order, without_pair, with_all, IsNameBelow, IsAscending}
use Rattle.sg_msg.specs.Build.{Build, built}
use Rattle.sg_msg.proofs.ByteOrder.{test-same, test-less}
use Rattle.sg_msg.proofs.ManyPairs.{all-ascending}
use Rattle.sg_rewrite.specs.Values.{without_value}
use Rattle.sg_rewrite.specs.Rewritten.{is_picked, unset_each, unpicked}
use Rattle.sg_msg.proofs.PairWalks.{pair-next}

-- none of the pairs has the name
abbrev Lacks : List ℕ → List NameValue → Type 0
Lacks name [] = Unit {0}
Lacks name (pair ∷ pairs) = (bytes_eq pair.name name ≡ false) × Lacks name pairs

below-at : (x : List ℕ) (before : List NameValue) (pair : NameValue) (after : List NameValue) → IsNameBelow x (before ++ pair ∷ after) → byte_order x pair.name ≡ Less
below-at x [] pair after below = below.0
below-at x (first ∷ before) pair after below = below-at x before pair after below.1

lacks : (before : List NameValue) (pair : NameValue) (after : List NameValue) → IsAscending (before ++ pair ∷ after) → Lacks pair.name before
lacks [] pair after up = tt
lacks (first ∷ before) pair after up = (test-less first.name pair.name (below-at first.name before pair after up.0), lacks before pair after up.1)

without-at : (before : List NameValue) (pair : NameValue) (after : List NameValue) → Lacks pair.name before → without_pair pair.name (before ++ pair ∷ after) ≡ before ++ after
without-at [] pair after none = rw (test-same pair.name pair.name refl) refl
without-at (first ∷ before) pair after none = rw none.0 (ap (λ (pairs : List NameValue). first ∷ pairs) (without-at before pair after none.1))

module _ (globs : List (List ℕ)) where
  below-unpicked : (x : List ℕ) (pairs : List NameValue) → IsNameBelow x pairs → IsNameBelow x (unpicked globs pairs)
  below-unpicked x [] below = tt
  below-unpicked x (pair ∷ pairs) below = by (below-unpicked x pairs below.1) (is_picked globs pair.name) refl
    where
      by : IsNameBelow x (unpicked globs pairs) → (b : Bool) → is_picked globs pair.name ≡ b → IsNameBelow x (unpicked globs (pair ∷ pairs))
      by rest true is = rw is rest
      by rest false is = rw is (below.0, rest)

  ascending-unpicked : (pairs : List NameValue) → IsAscending pairs → IsAscending (unpicked globs pairs)
  ascending-unpicked [] up = tt
  ascending-unpicked (pair ∷ pairs) up = by (ascending-unpicked pairs up.1) (is_picked globs pair.name) refl
    where
      by : IsAscending (unpicked globs pairs) → (b : Bool) → is_picked globs pair.name ≡ b → IsAscending (unpicked globs (pair ∷ pairs))
      by rest true is = rw is rest
      by rest false is = rw is (below-unpicked pair.name pairs up.0, rest)

  -- setting them gives them
  pub set-unpicked : (pairs : List NameValue) → IsAscending pairs → with_all (unpicked globs pairs) [] ≡ unpicked globs pairs
  set-unpicked pairs up = all-ascending (unpicked globs pairs) (ascending-unpicked pairs up)

  -- they are what unsetting the others one after another leaves
  unset-behind : (before pairs : List NameValue) (content : Content) → content.pairs ≡ before ++ pairs → IsAscending (before ++ pairs) →
      unset_each globs pairs content ≡ record content { pairs = before ++ unpicked globs pairs }
  unset-behind before [] content are up = ap (λ (ps : List NameValue). record content { pairs = ps }) are
  unset-behind before (pair ∷ pairs) content are up =
      by (unset-behind (before ++ pair ∷ []) pairs content (are ∙ sym joined) (subst (λ (ps : List NameValue). IsAscending ps) (sym joined) up)) (is_picked globs pair.name) refl
    where
      joined : (before ++ pair ∷ []) ++ pairs ≡ before ++ pair ∷ pairs
      joined = append_assoc before (pair ∷ []) pairs

      rest : (before ++ pair ∷ []) ++ unpicked globs pairs ≡ before ++ pair ∷ unpicked globs pairs
      rest = append_assoc before (pair ∷ []) (unpicked globs pairs)

      gone : without_pair pair.name ((before ++ pair ∷ []) ++ unpicked globs pairs) ≡ before ++ unpicked globs pairs
      gone = ap (λ (ps : List NameValue). without_pair pair.name ps) rest ∙ without-at before pair (unpicked globs pairs) (lacks before pair pairs up)

      by : unset_each globs pairs content ≡ record content { pairs = (before ++ pair ∷ []) ++ unpicked globs pairs } → (b : Bool) → is_picked globs pair.name ≡ b →
          unset_each globs (pair ∷ pairs) content ≡ record content { pairs = before ++ unpicked globs (pair ∷ pairs) }
      by tail true is = rw is (ap (λ (c : Content). without_value pair.name c) tail ∙ ap (λ (ps : List NameValue). record content { pairs = ps }) gone)
      by tail false is = rw is (tail ∙ ap (λ (ps : List NameValue). record content { pairs = ps }) rest)

  pub unset-all : (content : Content) → IsAscending content.pairs → unset_each globs content.pairs content ≡ record content { pairs = unpicked globs content.pairs }
  unset-all content up = unset-behind [] content.pairs content refl up

  -- one pair on
  unpicked-first : (pair : NameValue) (pairs : List NameValue) → unpicked globs (pair ∷ []) ++ unpicked globs pairs ≡ unpicked globs (pair ∷ pairs)
  unpicked-first pair pairs = by (is_picked globs pair.name) refl
    where
      by : (b : Bool) → is_picked globs pair.name ≡ b → unpicked globs (pair ∷ []) ++ unpicked globs pairs ≡ unpicked globs (pair ∷ pairs)
      by true is = rw is refl
      by false is = rw is refl

  pub unpicked-step : (put : List NameValue) (pair : NameValue) (pairs : List NameValue) →
      (put ++ unpicked globs (pair ∷ [])) ++ unpicked globs pairs ≡ put ++ unpicked globs (pair ∷ pairs)
  unpicked-step put pair pairs = append_assoc put (unpicked globs (pair ∷ [])) (unpicked globs pairs) ∙ ap (λ (ps : List NameValue). put ++ ps) (unpicked-first pair pairs)

module _ (globs : List (List ℕ)) where
  -- one pair on, in what is made anew
  pub pair-on : (old new : Build) (pairs : List NameValue) (place : ℕ) (name value : List ℕ) →
      Some (record { name = name; value = value }) ≡ slice_get pairs place →
      new ≡ record old { put = old.put ++ unpicked globs ((record { name = name; value = value }) ∷ []) } →
      record new { put = new.put ++ unpicked globs (drop (place + 1) pairs) } ≡ record old { put = old.put ++ unpicked globs (drop place pairs) }
  pair-on old new pairs place name value e is =
      let pair : NameValue = record { name = name; value = value } in
      ap (λ (b : Build). record b { put = b.put ++ unpicked globs (drop (place + 1) pairs) }) is
      ∙ ap (λ (ps : List NameValue). record old { put = ps }) (unpicked-step globs old.put pair (drop (place + 1) pairs) ∙ ap (λ (ps : List NameValue). old.put ++ unpicked globs ps) (sym (pair-next pairs place name value e)))

  pub made-anew : (content : Content) (build : Build) → IsAscending content.pairs →
      build ≡ record { pri = content.pri; sent = content.sent; received = content.received; item = []; put = unpicked globs content.pairs; tags = content.tags } →
      built build ≡ unset_each globs content.pairs content
  made-anew content build up is =
      ap (λ (b : Build). built b) is ∙ ap (λ (ps : List NameValue). record content { pairs = ps }) (set-unpicked globs content.pairs up) ∙ sym (unset-all globs content up)
