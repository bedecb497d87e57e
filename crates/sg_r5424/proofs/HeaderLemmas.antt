-- The parts of a header, at the front of a text.
use Rattle.std.proofs.Common.{◌≡◌, ℕ, ◌+◌, ◌/◌, ◌%◌, List, ◌∷◌, ◌++◌, drop, Option, Some, None, is_some, refl, sym, ap, ◌∙◌, subst, arith, unsigned_abs}
use Rattle.std.proofs.lemmas.Bool.{false≢true}
use Rattle.sg_time.specs.declared.stamp.Stamp.{Stamp}
use Rattle.sg_time.specs.Reading.{IsIso, date_form, clock_form}
use Rattle.sg_msg.specs.Priority.{priority}
use Rattle.sg_r3164.proofs.StampsOnce.{iso_once, first_same}
use Rattle.sg_r5424.specs.declared.header.HeaderFront.{HeaderFront}
use Rattle.sg_r5424.specs.Grammar.{HeaderNames}
use Rattle.sg_r5424.specs.Grammar.{IsStart, IsStamp, IsHeaderFront, IsField, IsNames}
use Rattle.sg_r5424.proofs.NameLemmas.{field_once}

-- a PRI is the one that was found
pri_is : (text : List ℕ) (p q m n : ℕ) → priority text ≡ Some (p, m) → priority text ≡ Some (q, n) → (p ≡ q) × (m ≡ n)
pri_is text p q m n e f =
    let both : Some (p, m) ≡ Some (q, n) = sym e ∙ f in
    let pair : (p, m) ≡ (q, n) = cc in
    (ap (λ (x : ℕ × ℕ). x.0) pair, ap (λ (x : ℕ × ℕ). x.1) pair)

pub start_once : (text : List ℕ) (p q : ℕ) (s t : List ℕ) → IsStart text p s → IsStart text q t → (p ≡ q) × (s ≡ t)
start_once text p q s t a b =
    let same = pri_is text p q a.len b.len a.is_pri b.is_pri in
    let texts : 49 ∷ 32 ∷ s ≡ 49 ∷ 32 ∷ t = sym a.is_version ∙ (ap (λ n. drop n text) same.1 ∙ b.is_version) in
    (same.0, ap (drop 2) texts)

pub start_none : (text : List ℕ) (p : ℕ) (rest : List ℕ) → priority text ≡ None → ¬ IsStart text p rest
start_none text p rest e = λ h. false≢true (ap is_some (sym e ∙ h.is_pri))

pub start_stuck : (text : List ℕ) (p len : ℕ) → priority text ≡ Some (p, len) → ((rest : List ℕ) → ¬ (drop len text ≡ 49 ∷ 32 ∷ rest)) → (q : ℕ) (rest : List ℕ) → ¬ IsStart text q rest
start_stuck text p len e never q rest = λ h.
    let same = pri_is text p q len h.len e h.is_pri in
    never rest (ap (λ n. drop n text) same.1 ∙ h.is_version)

pub iso_stuck : (text : List ℕ) (s : Stamp) (len : ℕ) → IsIso text s len → ((rest : List ℕ) → ¬ (drop len text ≡ 32 ∷ rest)) → (t : Stamp) (rest : List ℕ) → ¬ IsStamp text (Some t) rest
iso_stuck text s len iso never t rest = λ h.
    let same = iso_once text s t len h.0 iso h.1.0 in
    never rest (ap (λ n. drop n text) same.1 ∙ h.1.1)

-- a stamp that isn't nil begins with a digit
not_nil : (text rest : List ℕ) (s : Stamp) (len : ℕ) → IsIso text s len → ¬ (text ≡ 45 ∷ 32 ∷ rest)
not_nil text rest s len h = λ e.
    let year = unsigned_abs h.date.year in
    let behind : List ℕ = drop 1 (date_form h.date ++ (84 ∷ (clock_form h.time ++ (h.fraction ++ (h.zone ++ h.rest))))) in
    let first : 48 + year / 1000 % 10 ≡ 45 = first_same (48 + year / 1000 % 10) 45 behind (32 ∷ rest) (sym h.is_text ∙ e) in
    omega (arith, first)

stamp_once : (text : List ℕ) (a b : Option Stamp) (s t : List ℕ) → IsStamp text a s → IsStamp text b t → (a ≡ b) × (s ≡ t)
stamp_once text None None s t p q = (refl, ap (drop 2) (sym p ∙ q))
stamp_once text None (Some b) s t p q = absurd (not_nil text s b q.0 q.1.0 p)
stamp_once text (Some a) None s t p q = absurd (not_nil text t a p.0 p.1.0 q)
stamp_once text (Some a) (Some b) s t p q =
    let same = iso_once text a b p.0 q.0 p.1.0 q.1.0 in
    let texts : 32 ∷ s ≡ 32 ∷ t = sym p.1.1 ∙ (ap (λ n. drop n text) same.1 ∙ q.1.1) in
    (ap Some same.0, ap (drop 1) texts)

abbrev front_of : ℕ → Option Stamp → HeaderFront
front_of pri stamp = record { pri = pri; stamp = stamp }

pub front_once : (text : List ℕ) (a b : HeaderFront) (s t : List ℕ) → IsHeaderFront text a s → IsHeaderFront text b t → (a ≡ b) × (s ≡ t)
front_once text a b s t p q =
    let start = start_once text a.pri b.pri p.behind q.behind p.start q.start in
    let stamp = stamp_once q.behind a.stamp b.stamp s t (subst (λ (x : List ℕ). IsStamp x a.stamp s) start.1 p.stamp) q.stamp in
    (ap (λ x. front_of x a.stamp) start.0 ∙ ap (λ x. front_of b.pri x) stamp.0, stamp.1)

no_stamp : (text : List ℕ) (stamp : Option Stamp) (rest : List ℕ) → ((r : List ℕ) → ¬ (text ≡ 45 ∷ 32 ∷ r)) → ((s : Stamp) (r : List ℕ) → ¬ IsStamp text (Some s) r) → ¬ IsStamp text stamp rest
no_stamp text None rest no_nil no_iso = λ h. no_nil rest h
no_stamp text (Some s) rest no_nil no_iso = λ h. no_iso s rest h

pub front_stuck : (text : List ℕ) (pri : ℕ) (behind : List ℕ) → IsStart text pri behind → ((r : List ℕ) → ¬ (behind ≡ 45 ∷ 32 ∷ r)) → ((s : Stamp) (r : List ℕ) → ¬ IsStamp behind (Some s) r) → (front : HeaderFront) (rest : List ℕ) → ¬ IsHeaderFront text front rest
front_stuck text pri behind start no_nil no_iso front rest = λ h.
    let same = start_once text pri front.pri behind h.behind start h.start in
    no_stamp behind front.stamp rest no_nil no_iso (subst (λ (x : List ℕ). IsStamp x front.stamp rest) (sym same.1) h.stamp)

-- where one of the names can't be read
abbrev NoField : ℕ → List ℕ → Type 0
NoField most text = (field rest : List ℕ) → ¬ IsField most text field rest

moved : (most : ℕ) (s t field rest : List ℕ) → s ≡ t → IsField most s field rest → IsField most t field rest
moved most s t field rest e h = subst (λ (x : List ℕ). IsField most x field rest) e h

pub no_program : (text host s : List ℕ) → IsField 255 text host s → NoField 48 s → (names : HeaderNames) (rest : List ℕ) → ¬ IsNames text names rest
no_program text host s a never names rest = λ h.
    let one = field_once 255 text host names.host s h.behind_host a h.host in
    never names.program h.behind_program (moved 48 h.behind_host s names.program h.behind_program (sym one.1) h.program)

pub no_pid : (text host s program t : List ℕ) → IsField 255 text host s → IsField 48 s program t → NoField 128 t → (names : HeaderNames) (rest : List ℕ) → ¬ IsNames text names rest
no_pid text host s program t a b never names rest = λ h.
    let one = field_once 255 text host names.host s h.behind_host a h.host in
    let two = field_once 48 s program names.program t h.behind_program b (moved 48 h.behind_host s names.program h.behind_program (sym one.1) h.program) in
    never names.pid h.behind_pid (moved 128 h.behind_program t names.pid h.behind_pid (sym two.1) h.pid)

pub no_msgid : (text host s program t pid u : List ℕ) → IsField 255 text host s → IsField 48 s program t → IsField 128 t pid u → NoField 32 u → (names : HeaderNames) (rest : List ℕ) → ¬ IsNames text names rest
no_msgid text host s program t pid u a b d never names rest = λ h.
    let one = field_once 255 text host names.host s h.behind_host a h.host in
    let two = field_once 48 s program names.program t h.behind_program b (moved 48 h.behind_host s names.program h.behind_program (sym one.1) h.program) in
    let three = field_once 128 t pid names.pid u h.behind_pid d (moved 128 h.behind_program t names.pid h.behind_pid (sym two.1) h.pid) in
    never names.msgid rest (moved 32 h.behind_pid u names.msgid rest (sym three.1) h.msgid)

abbrev names_of : List ℕ → List ℕ → List ℕ → List ℕ → HeaderNames
names_of host program pid msgid = record { host = host; program = program; pid = pid; msgid = msgid }

pub names_once : (text : List ℕ) (a b : HeaderNames) (s t : List ℕ) → IsNames text a s → IsNames text b t → (a ≡ b) × (s ≡ t)
names_once text a b s t p q =
    let one = field_once 255 text a.host b.host p.behind_host q.behind_host p.host q.host in
    let two = field_once 48 q.behind_host a.program b.program p.behind_program q.behind_program (moved 48 p.behind_host q.behind_host a.program p.behind_program one.1 p.program) q.program in
    let three = field_once 128 q.behind_program a.pid b.pid p.behind_pid q.behind_pid (moved 128 p.behind_program q.behind_program a.pid p.behind_pid two.1 p.pid) q.pid in
    let four = field_once 32 q.behind_pid a.msgid b.msgid s t (moved 32 p.behind_pid q.behind_pid a.msgid s three.1 p.msgid) q.msgid in (
      ap (λ x. names_of x a.program a.pid a.msgid) one.0
          ∙ (ap (λ x. names_of b.host x a.pid a.msgid) two.0
          ∙ (ap (λ x. names_of b.host b.program x a.msgid) three.0 ∙ ap (λ x. names_of b.host b.program b.pid x) four.0)),
      four.1,
    )
