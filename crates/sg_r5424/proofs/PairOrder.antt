-- The pairs of a record are those of its header, of structured data and of MESSAGE, whichever are put first.
use Rattle.std.proofs.Common.{◌≡◌, ◌≢◌, ℕ, false, inl, inr, Option, None, Some, List, [], ◌∷◌, ◌++◌, take, codes, bytes_eq, refl, sym, ap, subst, ◌∙◌}
use Rattle.sg_msg.specs.Message.{NameValue, with_pair, with_all, IsAscending}
use Rattle.sg_msg.specs.Build.{some_pair}
use Rattle.sg_msg.proofs.ByteOrder.{test-same}
use Rattle.sg_msg.proofs.KeptPairs.{ascending-with}
use Rattle.sg_msg.proofs.ManyPairs.{ascending-all, commute, with_all-append}
use Rattle.sg_r3164.specs.declared.opts.ReadOpts.{ReadOpts}
use Rattle.sg_r3164.specs.Options.{host_of}
use Rattle.sg_r5424.specs.Grammar.{HeaderNames, unless_nil}
use Rattle.sg_r5424.specs.Data.{Elements, IsData}
use Rattle.sg_r5424.specs.Data.Elements.{none, more}
use Rattle.sg_r5424.specs.Is5424.{name_pairs, message_pair, put_in_order}
use Rattle.sg_r5424.proofs.NamedValues.{AreData, not_named}
use Rattle.sg_r5424.proofs.DataAgain.{element_data, data_both}

-- none of these pairs has the name
abbrev HaveNone : List ℕ → List NameValue → Type 0
HaveNone name [] = Unit {0}
HaveNone name (pair ∷ pairs) = (bytes_eq pair.name name ≡ false) × HaveNone name pairs

-- no name stands among both
abbrev AreApart : List NameValue → List NameValue → Type 0
AreApart [] others = Unit {0}
AreApart (pair ∷ pairs) others = HaveNone pair.name others × AreApart pairs others

differs : (x y : List ℕ) → bytes_eq x y ≡ false → x ≢ y
differs x y apart e = let same = test-same x y e in absurd (cc)

past : (pair : NameValue) (others base : List NameValue) → HaveNone pair.name others → IsAscending base
    → with_all others (with_pair pair.name pair.value base) ≡ with_pair pair.name pair.value (with_all others base)
past pair [] base apart up = refl
past pair (other ∷ others) base apart up =
    ap (with_all others) (commute other pair base (differs other.name pair.name apart.0) up)
    ∙ past pair others (with_pair other.name other.value base) apart.1 (ascending-with other.name other.value base up)

exchange : (first second base : List NameValue) → AreApart first second → IsAscending base → with_all second (with_all first base) ≡ with_all first (with_all second base)
exchange [] second base apart up = refl
exchange (pair ∷ first) second base apart up =
    exchange first second (with_pair pair.name pair.value base) apart.1 (ascending-with pair.name pair.value base up)
    ∙ ap (with_all first) (past pair second base apart.0 up)

apart_both : (first second others : List NameValue) → AreApart first others → AreApart second others → AreApart (first ++ second) others
apart_both [] second others a b = b
apart_both (pair ∷ first) second others a b = (a.0, apart_both first second others a.1 b)

apart_some : (name : List ℕ) (value : Option (List ℕ)) (others : List NameValue) → HaveNone name others → AreApart (some_pair name value) others
apart_some name None others apart = tt
apart_some name (Some value) others apart = (apart, tt)

none_some : (name other : List ℕ) (value : Option (List ℕ)) → bytes_eq other name ≡ false → HaveNone name (some_pair other value)
none_some name other None apart = tt
none_some name other (Some value) apart = (apart, tt)

-- structured data has names of its own
none_data : (name : List ℕ) («data» : List NameValue) → bytes_eq (take 7 name) (codes ".SDATA.") ≡ false → AreData «data» → HaveNone name «data»
none_data name [] other are = tt
none_data name (pair ∷ «data») other are = (not_named pair name are.0 other, none_data name «data» other are.1)

elements_data : (text : List ℕ) (pairs : List NameValue) (rest : List ℕ) → Elements text pairs rest → AreData pairs
elements_data _ _ _ (none text stops) = tt
elements_data _ _ _ (more text middle rest first pairs one others) =
    data_both first pairs (subst AreData (sym one.are_pairs) (element_data one.id one.params)) (elements_data middle pairs rest others)

are_data : (text : List ℕ) (pairs : List NameValue) (rest : List ℕ) → IsData text pairs rest → AreData pairs
are_data [] pairs rest is = absurd is
are_data (b ∷ text) pairs rest (inl is) = subst AreData (sym is.1) tt
are_data (b ∷ text) pairs rest (inr is) = elements_data (b ∷ text) pairs rest is.1

module _ (host : List ℕ) (program pid msgid : Option (List ℕ)) (text : List ℕ) («data» : List NameValue) (are : AreData «data») where
  abbrev h : List NameValue
  h = (record { name = codes "HOST"; value = host }) ∷ []

  abbrev g : List NameValue
  g = some_pair (codes "PROGRAM") program

  abbrev p : List NameValue
  p = some_pair (codes "PID") pid

  abbrev i : List NameValue
  i = some_pair (codes "MSGID") msgid

  abbrev m : List NameValue
  m = message_pair text ∷ []

  apart-data : AreApart (h ++ g ++ p ++ i) «data»
  apart-data =
      apart_both (h ++ g ++ p) i «data»
      (apart_both (h ++ g) p «data»
      (apart_both h g «data» (none_data (codes "HOST") «data» refl are, tt) (apart_some (codes "PROGRAM") program «data» (none_data (codes "PROGRAM") «data» refl are)))
      (apart_some (codes "PID") pid «data» (none_data (codes "PID") «data» refl are)))
      (apart_some (codes "MSGID") msgid «data» (none_data (codes "MSGID") «data» refl are))

  apart-message : AreApart (g ++ p ++ i) m
  apart-message =
      apart_both (g ++ p) i m
      (apart_both g p m (apart_some (codes "PROGRAM") program m (refl, tt)) (apart_some (codes "PID") pid m (refl, tt)))
      (apart_some (codes "MSGID") msgid m (refl, tt))

  apart-msgid : AreApart (g ++ p) i
  apart-msgid =
      apart_both g p i (apart_some (codes "PROGRAM") program i (none_some (codes "PROGRAM") (codes "MSGID") msgid refl))
      (apart_some (codes "PID") pid i (none_some (codes "PID") (codes "MSGID") msgid refl))

  apart-pid : AreApart g p
  apart-pid = apart_some (codes "PROGRAM") program p (none_some (codes "PROGRAM") (codes "PID") pid refl)

  -- from the order of a record to that of names
  in-order : (base : List NameValue) → IsAscending base
      → with_all m (with_all i (with_all p (with_all g (with_all h base)))) ≡ with_all g (with_all p (with_all i (with_all m (with_all h base))))
  in-order base up =
      let behind_host = with_all h base in
      let host_up : IsAscending behind_host = ascending-all h base up in
      let behind_message = with_all m behind_host in
      let message_up : IsAscending behind_message = ascending-all m behind_host host_up in
      let behind_msgid = with_all i behind_message in
      ap (with_all m) (sym (with_all-append (g ++ p) i behind_host ∙ ap (with_all i) (with_all-append g p behind_host)))
      ∙ exchange (g ++ p ++ i) m behind_host apart-message host_up
      ∙ with_all-append (g ++ p) i behind_message
      ∙ exchange (g ++ p) i behind_message apart-msgid message_up
      ∙ with_all-append g p behind_msgid
      ∙ exchange g p behind_msgid apart-pid (ascending-all i behind_message message_up)

  ordered : with_all (h ++ g ++ p ++ i ++ «data» ++ m) [] ≡ with_all («data» ++ h ++ m ++ i ++ p ++ g) []
  ordered =
      let base = with_all «data» [] in
      let up : IsAscending base = ascending-all «data» [] tt in
      with_all-append (h ++ g ++ p ++ i ++ «data») m []
      ∙ ap (with_all m) (with_all-append (h ++ g ++ p ++ i) «data» [] ∙ exchange (h ++ g ++ p ++ i) «data» [] apart-data tt)
      ∙ ap (with_all m) (with_all-append (h ++ g ++ p) i base ∙ ap (with_all i) (with_all-append (h ++ g) p base ∙ ap (with_all p) (with_all-append h g base)))
      ∙ in-order base up
      ∙ sym (with_all-append («data» ++ h ++ m ++ i ++ p) g []
      ∙ ap (with_all g) (with_all-append («data» ++ h ++ m ++ i) p []
      ∙ ap (with_all p) (with_all-append («data» ++ h ++ m) i []
      ∙ ap (with_all i) (with_all-append («data» ++ h) m []
      ∙ ap (with_all m) (with_all-append «data» h [])))))

-- the two orders of the pairs of a record say the same
pub in_order_same : (opts : ReadOpts) (peer : List ℕ) (names : HeaderNames) (message text : List ℕ) (pairs : List NameValue) (rest : List ℕ) → IsData text pairs rest
    → with_all (name_pairs opts peer names ++ pairs ++ message_pair message ∷ []) [] ≡ with_all (put_in_order opts peer names message pairs) []
in_order_same opts peer names message text pairs rest is =
    ordered (host_of opts (unless_nil names.host) peer) (unless_nil names.program) (unless_nil names.pid) (unless_nil names.msgid) message pairs (are_data text pairs rest is)
