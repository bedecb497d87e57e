-- What is known of drivers that were read.
use Rattle.std.proofs.Common.{◌≡◌, ℕ, ◌/◌, ◌≤◌, nat_lt, if◌then◌else◌, Bool, true, false, List, [], ◌∷◌, codes, Option, Some, None, refl, ◌∙◌, sym, subst, arith}
use Rattle.std.specs.List.{fold}
use Rattle.std.specs.Option.{option_map}
use Rattle.std.proofs.lemmas.Option.{none-some}
use Rattle.std.proofs.Math.Nat.{div-le_self}
use Rattle.sg_parse_base.specs.declared.spot.Spot.{Spot}
use Rattle.sg_parse_expr.specs.declared.tree.Call.{Call}
use Rattle.sg_parse_obj.specs.declared.object.Object.{Object}
use Rattle.sg_parse_obj.specs.declared.object.Object.TheVariants as object
use Rattle.sg_parse_text.specs.declared.statement.Statement.{Statement}
use Rattle.sg_parse_text.specs.declared.statement.Statement.TheVariants as statement
use Rattle.sg_outfmt.specs.declared.shape.DriverKind.{DriverKind}
use Rattle.sg_outfmt.specs.declared.shape.DriverKind.TheVariants.{File, Network, Syslog}
use Rattle.sg_options.specs.Settings.{last_value}
use Rattle.sg_options.specs.Values.{number_or}
use Rattle.sg_driver.specs.declared.defaults.Defaults.{Defaults}
use Rattle.sg_driver.specs.Limits.{window_size, fetch_limit, message_size, fifo_size, buffer_size}
use Rattle.sg_driver.specs.Driver.{driver_kind, options_of}
use Rattle.sg_driver.specs.Defaults.{IsWithinRange, no_options, with_options}
use Rattle.sg_source.specs.declared.inlet.SourceDriver.{SourceDriver}
use Rattle.sg_source.specs.Inlets.{window_by, slots_of, IsSourceDriver}
use Rattle.sg_run_plan.specs.declared.overflow.OverflowPlan.{OverflowPlan}
use Rattle.sg_destination.specs.declared.outlet.DestinationDriver.{DestinationDriver}
use Rattle.sg_destination.specs.declared.buffers.DiskBuffer.{DiskBuffer}
use Rattle.sg_destination.specs.Templates.{Texts}
use Rattle.sg_destination.specs.Buffers.{capacity_of, buffer_at, overflow_at, counting_buffer, reliable_of, unreliable_of, size_words}
use Rattle.sg_destination.specs.Outlets.{IsDestination}
use Rattle.sg_plan.specs.Globals.{with_object, with_statement, defaults_of}
use Rattle.sg_plan.proofs.Ranges.{number-or-within}
use Rattle.sg_list.proofs.ListLemmas.{some-same}

-- ---- the global options

abbrev pub AreFair : Defaults → Type 0
AreFair defaults = IsWithinRange message_size defaults.message_size × IsWithinRange fifo_size defaults.fifo

options-fair : (calls : List Call) (defaults : Defaults) → AreFair defaults → AreFair (with_options calls defaults)
options-fair calls defaults h = (
  number-or-within message_size (last_value (codes "log-msg-size" ∷ []) calls) defaults.message_size h.0,
  number-or-within fifo_size (last_value (codes "log-fifo-size" ∷ []) calls) defaults.fifo h.1,
)

object-fair : (defaults : Defaults) (o : Object) → AreFair defaults → AreFair (with_object defaults o)
object-fair defaults (object.Options calls) h = options-fair calls defaults h
object-fair defaults (object.Source name calls) h = h
object-fair defaults (object.Destination name calls) h = h
object-fair defaults (object.Filter name expr) h = h
object-fair defaults (object.Rewrite name calls) h = h
object-fair defaults (object.Parser name calls) h = h
object-fair defaults (object.Template name text) h = h

statement-fair : (defaults : Defaults) (s : Statement) → AreFair defaults → AreFair (with_statement defaults s)
statement-fair defaults (statement.Object o) h = object-fair defaults o h
statement-fair defaults (statement.Log log) h = h

statements-fair : (defaults : Defaults) (statements : List Statement) → AreFair defaults → AreFair (fold with_statement defaults statements)
statements-fair defaults [] h = h
statements-fair defaults (s ∷ ss) h = statements-fair (with_statement defaults s) ss (statement-fair defaults s h)

pub defaults-fair : (statements : List Statement) → AreFair (defaults_of statements)
unfolding defaults_of
defaults-fair statements = statements-fair no_options statements ((omega arith, omega arith), (omega arith, omega arith))

-- ---- sources

raised-within : (n : ℕ) (b : Bool) → nat_lt n 100 ≡ b → n ≤ 100000 → (100 ≤ (if b then 100 else n)) × ((if b then 100 else n) ≤ 100000)
raised-within n true e h = (omega arith, omega arith)
raised-within n false e h = (grind arith, h)

window-within : (kind : DriverKind) (value : Option Spot) (slots : ℕ) → (100 ≤ window_by kind value slots) × (window_by kind value slots ≤ 100000)
window-within File value slots = (let p = number-or-within window_size value 100 (omega arith, omega arith) in raised-within (number_or value window_size 100) _ refl p.1)
window-within Network value slots = (let p = number-or-within window_size value 1000 (omega arith, omega arith) in let q = div-le_self (number_or value window_size 1000) slots in raised-within (number_or value window_size 1000 / slots) _ refl (omega arith))
window-within Syslog value slots = (let p = number-or-within window_size value 1000 (omega arith, omega arith) in let q = div-le_self (number_or value window_size 1000) slots in raised-within (number_or value window_size 1000 / slots) _ refl (omega arith))

pub record IsFairSource (source : SourceDriver) : Type 0 where
  pub window : (100 ≤ source.window) × (source.window ≤ 100000)
  pub limit : (1 ≤ source.limit) × (source.limit ≤ 1048576)
  pub fetch : (1 ≤ source.fetch) × (source.fetch ≤ 1000)

pub source-fair : (defaults : Defaults) (call : Call) (source : SourceDriver) → AreFair defaults → IsSourceDriver defaults call source → IsFairSource source
source-fair defaults call source h is = record {
  window = subst (λ w. (100 ≤ w) × (w ≤ 100000)) (sym is.window) (window-within (driver_kind call) (last_value (codes "log-iw-size" ∷ []) (options_of call)) (slots_of call));
  limit = subst (λ w. (1 ≤ w) × (w ≤ 1048576)) (sym is.limit) (number-or-within message_size (last_value (codes "log-msg-size" ∷ []) (options_of call)) defaults.message_size h.0);
  fetch = subst (λ w. (1 ≤ w) × (w ≤ 1000)) (sym is.fetch) (number-or-within fetch_limit (last_value (codes "log-fetch-limit" ∷ []) (options_of call)) 100 (omega arith, omega arith));
}

-- ---- destinations

raised-capacity-within : (n : ℕ) (b : Bool) → nat_lt n 1048576 ≡ b → n ≤ 1073741824 → (1048576 ≤ (if b then 1048576 else n)) × ((if b then 1048576 else n) ≤ 1073741824)
raised-capacity-within n true e h = (omega arith, omega arith)
raised-capacity-within n false e h = (grind arith, h)

capacity-within : (buffer : Call) → (1048576 ≤ capacity_of buffer) × (capacity_of buffer ≤ 1073741824)
capacity-within buffer = (let p = number-or-within buffer_size (last_value size_words (options_of buffer)) 1048576 (omega arith, omega arith) in raised-capacity-within (number_or (last_value size_words (options_of buffer)) buffer_size 1048576) _ refl p.1)

pub record IsFairDestination (dest : DestinationDriver) : Type 0 where
  pub fifo : (1 ≤ dest.fifo) × (dest.fifo ≤ 1000000)
  pub capacity : (buffer : DiskBuffer) → dest.buffer ≡ Some buffer → (1048576 ≤ buffer.capacity) × (buffer.capacity ≤ 1073741824)
  pub overflow : (overflow : OverflowPlan) → dest.plan.overflow ≡ Some overflow → overflow.capacity ≤ 1073741824

buffer-within : (call : Call) (counting : Option Call) (buffer : DiskBuffer) → option_map (buffer_at call) counting ≡ Some buffer → (1048576 ≤ buffer.capacity) × (buffer.capacity ≤ 1073741824)
buffer-within call None buffer e = absurd (none-some buffer e)
buffer-within call (Some c) buffer e = subst (λ (b : DiskBuffer). (1048576 ≤ b.capacity) × (b.capacity ≤ 1073741824)) (some-same (buffer_at call c) buffer e) (capacity-within c)

overflow-within : (call : Call) (counting : Option Call) (overflow : OverflowPlan) → option_map (overflow_at call) counting ≡ Some overflow → overflow.capacity ≤ 1073741824
overflow-within call None overflow e = absurd (none-some overflow e)
overflow-within call (Some c) overflow e = subst (λ (o : OverflowPlan). o.capacity ≤ 1073741824) (some-same (overflow_at call c) overflow e) (capacity-within c).1

pub destination-fair : (defaults : Defaults) (texts : Texts) (call : Call) (dest : DestinationDriver) → AreFair defaults → IsDestination defaults texts call dest → IsFairDestination dest
destination-fair defaults texts call dest h is = record {
  fifo = subst (λ w. (1 ≤ w) × (w ≤ 1000000)) (sym is.fifo) (number-or-within fifo_size (last_value (codes "log-fifo-size" ∷ []) (options_of call)) defaults.fifo h.1);
  capacity = λ buffer e. buffer-within call (reliable_of (counting_buffer call)) buffer (sym is.buffer ∙ e);
  overflow = λ overflow e. overflow-within call (unreliable_of (counting_buffer call)) overflow (sym is.plan.overflow ∙ e);
}
