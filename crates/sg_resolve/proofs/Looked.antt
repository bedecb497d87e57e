-- Options that are read and checked.
use Rattle.std.proofs.Common.{◌≡◌, ℕ, ◌+◌, ◌*◌, List, [], ◌∷◌, ◌++◌, Option, Some, None, refl, sym, ap, ◌∙◌, subst}
use Rattle.std.specs.Option.{option_map}
use Rattle.std.specs.Prelude.{◌&&◌, ◌||◌, not, is_none, if◌then◌else◌, codes, true, false}
use Rattle.sg_parse_expr.specs.declared.tree.Call.{Call}
use Rattle.sg_parse_obj.specs.Tables.{source, listener, destination, writer, sender, framed, disk, global}
use Rattle.sg_outfmt.specs.declared.shape.DriverKind.{DriverKind}
use Rattle.sg_outfmt.specs.declared.shape.DriverKind.TheVariants.{File, Network, Syslog}
use Rattle.sg_options.specs.Settings.{value_behind, has_flag, last_value}
use Rattle.sg_options.specs.Stores.{buffer_name, overflow_name}
use Rattle.sg_options.specs.Values.{text_or, number_or, truth_or, zone_or, zone_or_none, mode_or, facility_or, level_or}
use Rattle.sg_driver.specs.Defaults.{global_checks, iso_or}
use Rattle.sg_driver.specs.Driver.{driver_kind, name_of, options_of}
use Rattle.sg_driver.specs.Limits.{window_size, fetch_limit, message_size, connections, ports, fifo_size, fraction_digits, reopen_time, reap_time}
use Rattle.sg_driver.specs.declared.defaults.Defaults.{Defaults}
use Rattle.sg_outside.specs.declared.request.OutletSpec.TheVariants as outlet
use Rattle.sg_source.specs.Inlets.{place_by, listener_of, frames_by, window_by, is_syslog, texts_behind, facility_words, level_words, IsSourceDriver}
use Rattle.sg_source.specs.Sources.{source_checks, listener_checks, port_words, connection_words}
use Rattle.sg_source.specs.declared.inlet.SourceOrigin.TheVariants as place
use Rattle.sg_source.specs.declared.inlet.SourceDriver.{SourceDriver}
use Rattle.sg_destination.specs.Buffers.{buffer_checks, memory_checks, buffer_words, is_reliable, reliable_of, unreliable_of, directory_of, destination_text, capacity_of, whole_of, size_by, memory_of, buffer_of, overflow_of}
use Rattle.sg_destination.specs.Destinations.{destination_checks, file_checks, host_checks}
use Rattle.sg_destination.specs.Outlets.{folders_of, file_of, host_of, spec_by, IsDestination}
use Rattle.sg_destination.specs.ByPath.{is_template, parts_for, path_parts, with_path}
use Rattle.sg_destination.specs.Templates.{Texts, template_words, HasShape}
use Rattle.sg_destination.specs.declared.outlet.DestinationDriver.{DestinationDriver}
use Rattle.sg_resolve.specs.Options.{AreAlikeDrivers, AreChecked, AreCheckedOrSkipped, AreOptionsRead, AreReadOrSkipped, destination_words, disk_words, framed_words, global_words, listener_words, sender_words, settled_words, source_words, writer_words}

pub source-read : AreOptionsRead source source_words
unfolding source
source-read = (refl, refl)

pub listener-read : AreOptionsRead listener (settled_words ++ listener_words)
unfolding listener
listener-read = (refl, refl)

pub destination-read : AreOptionsRead destination destination_words
unfolding destination
destination-read = (refl, refl)

pub writer-read : AreOptionsRead writer writer_words
unfolding writer
writer-read = (refl, refl)

pub sender-read : AreOptionsRead sender (settled_words ++ sender_words)
unfolding sender
sender-read = (refl, refl)

pub framed-read : AreOptionsRead framed framed_words
unfolding framed
framed-read = (refl, refl)

pub disk-read : AreReadOrSkipped disk disk_words
unfolding disk
disk-read = (refl, refl)

pub global-read : AreReadOrSkipped global global_words
unfolding global
global-read = (refl, refl)

pub source-checked : AreChecked source source_checks
unfolding source source_checks
source-checked = (refl, refl)

pub listener-checked : AreChecked listener listener_checks
unfolding listener listener_checks
listener-checked = (refl, refl)

pub destination-checked : AreChecked destination destination_checks
unfolding destination destination_checks
destination-checked = (refl, refl)

pub sender-checked : AreChecked sender host_checks
unfolding sender host_checks
sender-checked = (refl, refl)

pub writer-checked : AreChecked writer file_checks
unfolding writer file_checks
writer-checked = (refl, refl)

pub disk-checked : AreCheckedOrSkipped disk (buffer_checks ++ memory_checks)
unfolding disk buffer_checks memory_checks
disk-checked = (refl, refl)

pub global-checked : AreCheckedOrSkipped global global_checks
unfolding global global_checks
global-checked = (refl, refl)

-- the same options make the same driver
module _ (a b : Call) (h : AreAlikeDrivers (listener_words ++ source_words) a b) where
  listener-alike : listener_of a ≡ listener_of b
  listener-alike =
      let ip = h.same (codes "ip" ∷ []) refl in
      let port = h.same port_words refl in
      let most = h.same connection_words refl in
      λ i. place.Listener (text_or (value_behind (ip i)) (codes "0.0.0.0")) (number_or (value_behind (port i)) ports 0) (number_or (value_behind (most i)) connections 10)

  place-alike : (kind : DriverKind) → place_by kind a ≡ place_by kind b
  place-alike File = ap place.File h.name
  place-alike Network = listener-alike
  place-alike Syslog = listener-alike

  pub sources-alike : (defaults : Defaults) (driver : SourceDriver) → IsSourceDriver defaults a driver → IsSourceDriver defaults b driver
  sources-alike defaults driver s =
      let sized = h.same (codes "log-iw-size" ∷ []) refl in
      let most = h.same connection_words refl in
      let flags = h.same (codes "flags" ∷ []) refl in
      let facility = h.same facility_words refl in
      let level = h.same level_words refl in
      record {
        place = s.place ∙ ap (λ k. place_by k a) h.kind ∙ place-alike (driver_kind b);
        kind = s.kind ∙ ap frames_by h.kind;
        limit = s.limit ∙ ap (λ o. number_or (value_behind o) message_size defaults.message_size) (h.same (codes "log-msg-size" ∷ []) refl);
        fetch = s.fetch ∙ ap (λ o. number_or (value_behind o) fetch_limit 100) (h.same (codes "log-fetch-limit" ∷ []) refl);
        window = s.window ∙ (λ i. window_by (h.kind i) (value_behind (sized i)) (number_or (value_behind (most i)) connections 10));
        opts = record {
          pri = s.opts.pri ∙ (λ i. facility_or (value_behind (facility i)) (if has_flag (codes "kernel") (flags i) && (is_none (facility i) && is_none (level i)) then 0 else 1) * 8 + level_or (value_behind (level i)) 5);
          zone = s.opts.zone ∙ ap (λ o. zone_or (value_behind o) defaults.received_zone) (h.same (codes "recv-time-zone" ∷ codes "time-zone" ∷ []) refl);
          keep_hostname = s.opts.keep_hostname ∙ ap (λ o. truth_or (value_behind o) defaults.keep_hostname) (h.same (codes "keep-hostname" ∷ []) refl);
          keep_timestamp = s.opts.keep_timestamp ∙ ap (λ o. truth_or (value_behind o) defaults.keep_timestamp) (h.same (codes "keep-timestamp" ∷ []) refl);
          parse = s.opts.parse ∙ ap (λ f. not (has_flag (codes "no-parse") f)) flags;
        };
        rfc5424 = s.rfc5424 ∙ (λ i. (is_syslog (h.kind i) || has_flag (codes "syslog-protocol") (flags i)) && not (has_flag (codes "no-parse") (flags i)));
        empty_lines = s.empty_lines ∙ ap (has_flag (codes "empty-lines")) flags;
        one_line = s.one_line ∙ ap (has_flag (codes "no-multi-line")) flags;
        tags = s.tags ∙ ap texts_behind (h.same (codes "tags" ∷ []) refl);
      }

module _ (a b : Call) (h : AreAlikeDrivers (writer_words ++ (sender_words ++ destination_words)) a b) (defaults : Defaults) where
  host-alike : host_of defaults a ≡ host_of defaults b
  host-alike =
      let to = h.same (codes "port" ∷ []) refl in
      let reopen = h.same (codes "time-reopen" ∷ []) refl in
      λ i. outlet.Tcp (h.name i) (number_or (value_behind (to i)) ports 0) (number_or (value_behind (reopen i)) reopen_time defaults.reopen)

  file-alike : file_of defaults a ≡ file_of defaults b
  file-alike =
      let reopen = h.same (codes "time-reopen" ∷ []) refl in
      let fsync = h.same (codes "fsync" ∷ []) refl in
      let perm = h.same (codes "perm" ∷ []) refl in
      let dirs = h.same (codes "create-dirs" ∷ []) refl in
      let dir_perm = h.same (codes "dir-perm" ∷ []) refl in
      let reap = h.same (codes "time-reap" ∷ []) refl in
      let folders : folders_of defaults a ≡ folders_of defaults b =
      λ i. if truth_or (value_behind (dirs i)) defaults.folders then Some (mode_or (value_behind (dir_perm i)) defaults.folder_mode) else None in
      λ i. if is_template (h.kind i) (h.name i)
      then outlet.ByPath (truth_or (value_behind (fsync i)) false) (mode_or (value_behind (perm i)) defaults.mode) (folders i) (number_or (value_behind (reopen i)) reopen_time defaults.reopen) (number_or (value_behind (reap i)) reap_time defaults.reap)
      else outlet.File (h.name i) (truth_or (value_behind (fsync i)) false) (mode_or (value_behind (perm i)) defaults.mode) (folders i) (number_or (value_behind (reopen i)) reopen_time defaults.reopen)

  path-alike : path_parts a ≡ path_parts b
  path-alike = λ i. parts_for (h.kind i) (h.name i)

  spec-alike : (kind : DriverKind) → spec_by kind defaults a ≡ spec_by kind defaults b
  spec-alike File = file-alike
  spec-alike Network = host-alike
  spec-alike Syslog = host-alike

  buffer-alike : buffer_of a ≡ buffer_of b
  buffer-alike =
      let last = h.same buffer_words refl in
      let to = h.same (codes "port" ∷ []) refl in
      λ i. option_map (λ buffer. record { store = (if is_reliable buffer then buffer_name else overflow_name) (directory_of buffer) (destination_text (h.kind i) (h.name i) (number_or (value_behind (to i)) ports 0)); capacity = capacity_of buffer; whole = whole_of buffer }) (reliable_of (last i))

  overflow-alike : overflow_of a ≡ overflow_of b
  overflow-alike =
      let last = h.same buffer_words refl in
      let to = h.same (codes "port" ∷ []) refl in
      λ i. option_map (λ buffer. record {
        store = record {
          name = (if is_reliable buffer then buffer_name else overflow_name) (directory_of buffer) (destination_text (h.kind i) (h.name i) (number_or (value_behind (to i)) ports 0));
          create = true;
          size = size_by (whole_of buffer) (capacity_of buffer);
        };
        capacity = capacity_of buffer;
        memory = memory_of buffer;
      }) (unreliable_of (last i))

  pub destinations-alike : (texts : Texts) (driver : DestinationDriver) → IsDestination defaults texts a driver → IsDestination defaults texts b driver
  destinations-alike texts driver d =
      let shape = h.same template_words refl in
      record {
        plan = record {
          spec = d.plan.spec ∙ ap (λ k. spec_by k defaults a) h.kind ∙ spec-alike (driver_kind b);
          shape = record {
            text = d.plan.shape.text;
            has_text = subst (λ o. HasShape texts (driver_kind b) (value_behind o) d.plan.shape.text) shape (subst (λ (k : DriverKind). HasShape texts k (last_value template_words (options_of a)) d.plan.shape.text) h.kind d.plan.shape.has_text);
            shape_is = d.plan.shape.shape_is ∙ ap (λ p. with_path p d.plan.shape.text) path-alike;
          };
          env = record {
            zone = d.plan.env.zone ∙ ap (λ o. zone_or_none (value_behind o) defaults.zone) (h.same (codes "time-zone" ∷ []) refl);
            digits = d.plan.env.digits ∙ ap (λ o. number_or (value_behind o) fraction_digits defaults.digits) (h.same (codes "frac-digits" ∷ []) refl);
            iso = d.plan.env.iso ∙ ap (λ o. iso_or (value_behind o) defaults.iso) (h.same (codes "ts-format" ∷ []) refl);
            old = d.plan.env.old;
          };
          overflow = d.plan.overflow ∙ overflow-alike;
        };
        fifo = d.fifo ∙ ap (λ o. number_or (value_behind o) fifo_size defaults.fifo) (h.same (codes "log-fifo-size" ∷ []) refl);
        buffer = d.buffer ∙ buffer-alike;
      }
