-- What a change does to a message that is being changed.
use Rattle.std.proofs.Common.{◌≡◌, ◌<◌, ℕ, List, length, get_or, set, sym, ap, subst, ◌∙◌, arith}
use Rattle.std.proofs.lemmas.List.{map-set, get_or-map, length-map}
use Rattle.std.proofs.lemmas.List.Elements.{All-set}
use Rattle.sg_time.specs.declared.stamp.Stamp.{Stamp}
use Rattle.sg_msg.specs.Message.{NameValue, Content, with_pair, IsAscending, IsMessage, IsPairName}
use Rattle.sg_msg.specs.Places.{IsPairAt}
use Rattle.sg_msg.specs.Drafts.{Drafted}
use Rattle.sg_msg.specs.Parts.{own_text, name_in, value_in, pair_in, pairs_in, pairs_of, IsTextIn, IsPairIn, AreIn, Extends}
use Rattle.sg_msg.specs.declared.pair.Name.TheVariants.{Host}
use Rattle.sg_msg.specs.declared.pair.Text.{Text}
use Rattle.sg_msg.specs.declared.pair.Text.TheVariants.{Own}
use Rattle.sg_msg.specs.declared.pair.Pair.{Pair}
use Rattle.sg_msg.specs.declared.texts.Texts.{Texts}
use Rattle.sg_msg.proofs.PairPlaces.{with-at}
use Rattle.sg_msg.proofs.KeptPairs.{message-with}
use Rattle.sg_msg.proofs.TextLemmas.{pairs-stay, extends-two, text-keeps, text-keeps-there}

-- the pair of a name has another value
module _ (item : List ℕ) (own : List (List ℕ)) (pairs new : List Pair) (place : ℕ) (value : Text) (name : List ℕ) (found : IsPairAt (pairs_in item own pairs) name place) (is : (d : Pair) → new ≡ set pairs place (record { name = (get_or pairs place d).name; value = value })) where
  abbrev some : Pair
  some = record { name = Host; value = Own 0 }

  abbrev put : Pair
  put = record { name = (get_or pairs place some).name; value = value }

  lt : place < length pairs
  lt = omega (arith, length-map pairs (pair_in item own), found.in_range)

  named : name_in own (get_or pairs place some).name ≡ name
  named =
      ap (λ (p : NameValue). p.name) (sym (get_or-map (pair_in item own) pairs place some (pair_in item own some) lt))
      ∙ found.has_name (pair_in item own some)

  pub set-there : IsAscending (pairs_in item own pairs) → pairs_in item own new ≡ with_pair name (value_in item own value) (pairs_in item own pairs)
  set-there up =
      ap (pairs_in item own) (is some) ∙ map-set (pair_in item own) pairs place put
      ∙ ap (λ (n : List ℕ). set (pairs_in item own pairs) place (record { name = n; value = value_in item own value })) named
      ∙ sym (with-at name (value_in item own value) (pairs_in item own pairs) place up found)

  pub set-within : AreIn own pairs → IsTextIn own value → AreIn own new
  set-within all held = subst (AreIn own) (sym (is some)) (All-set (IsPairIn own) pairs place put (record { name = (all place some lt).name; value = held }) all)

-- texts are kept, and then a pair is set
module _ (pri : ℕ) (sent received : Stamp) (tags : List (List ℕ)) (item : List ℕ) (old middle : List (List ℕ)) (pairs : List Pair) (last : Texts) (after : List Pair) (text : ℕ) (stays : Extends old middle) (later : Extends middle last.own.items) (all : AreIn old pairs) (within : text < length old) where
  abbrev content : List NameValue → Content
  content ps = record { pri = pri; sent = sent; received = received; pairs = ps; tags = tags }

  abbrev drafted : List NameValue → List ℕ → Drafted
  drafted ps t = record { message = content ps; text = t }

  abbrev first : List NameValue
  first = pairs_in item old pairs

  whole : Extends old last.own.items
  whole = extends-two old middle last.own.items stays later

  same : pairs_in item middle pairs ≡ first
  same = pairs-stay item old middle pairs stays all

  text-same : own_text last.own.items text ≡ own_text old text
  text-same = text-keeps old last.own.items text whole within

  pub text-there : text < length last.own.items
  text-there = text-keeps-there old last.own.items text whole within

  pub none-view : pairs_of last after ≡ pairs_in item middle pairs → drafted (pairs_of last after) (own_text last.own.items text) ≡ drafted first (own_text old text)
  none-view e = ap (λ (ps : List NameValue). drafted ps (own_text last.own.items text)) (e ∙ same) ∙ ap (drafted first) text-same

  pub none-message : pairs_of last after ≡ pairs_in item middle pairs → IsMessage (content first) → IsMessage (content (pairs_of last after))
  none-message e message = subst (λ (ps : List NameValue). IsMessage (content ps)) (sym (e ∙ same)) message

  module _ (name value : List ℕ) (v : Text) (says : value_in item middle v ≡ value) (e : pairs_of last after ≡ with_pair name (value_in item middle v) (pairs_in item middle pairs)) where
    made : pairs_of last after ≡ with_pair name value first
    made = e ∙ ap (λ (t : List ℕ). with_pair name t (pairs_in item middle pairs)) says ∙ ap (with_pair name value) same

    pub put-view : drafted (pairs_of last after) (own_text last.own.items text) ≡ drafted (with_pair name value first) (own_text old text)
    put-view = ap (λ (ps : List NameValue). drafted ps (own_text last.own.items text)) made ∙ ap (drafted (with_pair name value first)) text-same

    pub put-message : IsPairName name → IsMessage (content first) → IsMessage (content (pairs_of last after))
    put-message named message = subst (λ (ps : List NameValue). IsMessage (content ps)) (sym made) (message-with name value (content first) named message)
