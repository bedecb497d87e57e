use Rattle.std.proofs.Common.{◌≡◌, ◌∙◌, ℕ, List, length, map, sym, ap, subst}
use Rattle.std.proofs.lemmas.List.{length-map}
use Rattle.sg_offers.specs.Rooms.{seen_in}
use Rattle.sg_machine.specs.declared.setup.DestSetup.{DestSetup}
use Rattle.sg_sinks.specs.States.{SinkState}
use Rattle.sg_stores.specs.Opening.{AreOpened}
use Rattle.sg_stores.specs.declared.kind.StoreKind.{StoreKind}
use Rattle.sg_standing.specs.declared.source.Source.{Source}
use Rattle.sg_core.specs.Opening.{AreKinds, NumberStores, AreRecoverable, AreThere, IsOpen, opened_source, opened_sink}
use Rattle.sg_core.specs.Whole.{IsWholeCore}
use Rattle.sg_core.proofs.OpenCalls.{unopened-memory, unopened-back, all-there, all-recoverable, whole-opened, open-opened}
use Rattle.sg_core.proofs.flow.Core.open.Goals as goal

pub returns-in-Err-clause-refused : goal.returns-in-Err-clause-refused
returns-in-Err-clause-refused g c = unopened-memory c.args.setup (map g.D.Disk.state c.args.stores.items)

pub sinks_at-requires : goal.sinks_at-requires
sinks_at-requires g c =
    let all = map g.D.Disk.state c.args.stores.items in
    let kinds = c.in-Ok.kinds.items in
    let founds = c.in_ok-stores.field-0.found in
    let stores = c.in_ok-stores.field-0.stores in
    let long : length c.args.stores.items ≡ length all = sym (length-map c.args.stores.items g.D.Disk.state) in
    let len : c.len.result ≡ length all = c.len.ensures ∙ c.args.stores.ok.0 ∙ long in
    let kinds_are = subst (λ (n : ℕ). AreKinds c.args.setup.dests n kinds) len (subst (λ (ds : List DestSetup). AreKinds ds c.len.result kinds) c.as_slice.ensures c.in-Ok.ensures) in
    let o = subst (λ (ks : List StoreKind). AreOpened ks all founds stores) c.deref.ensures.value c.in_ok-stores.ensures.opened in
    let numbers = subst (NumberStores c.args.setup) long c.requires.numbers in
    subst (AreRecoverable founds) (sym c.as_slice-2.ensures) (all-recoverable c.args.setup kinds all founds stores kinds_are o numbers)

pub returns-in-Err-sinks_at-clause-refused : goal.returns-in-Err-sinks_at-clause-refused
returns-in-Err-sinks_at-clause-refused g c =
    let all = map g.D.Disk.state c.args.stores.items in
    let kinds = c.in-Ok.kinds.items in
    let founds = c.in_ok-stores.field-0.found in
    let stores = c.in_ok-stores.field-0.stores in
    let long : length c.args.stores.items ≡ length all = sym (length-map c.args.stores.items g.D.Disk.state) in
    let len : c.len.result ≡ length all = c.len.ensures ∙ c.args.stores.ok.0 ∙ long in
    let kinds_are = subst (λ (n : ℕ). AreKinds c.args.setup.dests n kinds) len (subst (λ (ds : List DestSetup). AreKinds ds c.len.result kinds) c.as_slice.ensures c.in-Ok.ensures) in
    let o = subst (λ (ks : List StoreKind). AreOpened ks all founds stores) c.deref.ensures.value c.in_ok-stores.ensures.opened in
    unopened-back c.args.setup kinds all founds stores kinds_are o (map g.D.Disk.state c.into_disks.result.items) c.into_disks.ensures

pub sources_at-requires-clause-stores : goal.sources_at-requires-clause-stores
sources_at-requires-clause-stores g c =
    let all = map g.D.Disk.state c.args.stores.items in
    let kinds = c.in-Ok.kinds.items in
    let founds = c.in_ok-stores.field-0.found in
    let stores = c.in_ok-stores.field-0.stores in
    let long : length c.args.stores.items ≡ length all = sym (length-map c.args.stores.items g.D.Disk.state) in
    let len : c.len.result ≡ length all = c.len.ensures ∙ c.args.stores.ok.0 ∙ long in
    let kinds_are = subst (λ (n : ℕ). AreKinds c.args.setup.dests n kinds) len (subst (λ (ds : List DestSetup). AreKinds ds c.len.result kinds) c.as_slice.ensures c.in-Ok.ensures) in
    let o = subst (λ (ks : List StoreKind). AreOpened ks all founds stores) c.deref.ensures.value c.in_ok-stores.ensures.opened in
    let numbers = subst (NumberStores c.args.setup) long c.requires.numbers in
    subst (AreThere stores) (sym c.as_slice-3.ensures) (all-there c.args.setup kinds all founds stores kinds_are o numbers)

pub returns-in-Err-sources_at-clause-refused : goal.returns-in-Err-sources_at-clause-refused
returns-in-Err-sources_at-clause-refused g c =
    let all = map g.D.Disk.state c.args.stores.items in
    let kinds = c.in-Ok.kinds.items in
    let founds = c.in_ok-stores.field-0.found in
    let stores = c.in_ok-stores.field-0.stores in
    let long : length c.args.stores.items ≡ length all = sym (length-map c.args.stores.items g.D.Disk.state) in
    let len : c.len.result ≡ length all = c.len.ensures ∙ c.args.stores.ok.0 ∙ long in
    let kinds_are = subst (λ (n : ℕ). AreKinds c.args.setup.dests n kinds) len (subst (λ (ds : List DestSetup). AreKinds ds c.len.result kinds) c.as_slice.ensures c.in-Ok.ensures) in
    let o = subst (λ (ks : List StoreKind). AreOpened ks all founds stores) c.deref.ensures.value c.in_ok-stores.ensures.opened in
    unopened-back c.args.setup kinds all founds stores kinds_are o (map g.D.Disk.state c.into_disks-in-Err-sources_at.result.items) c.into_disks-in-Err-sources_at.ensures

pub invariant_of-result : goal.invariant_of-result
invariant_of-result g c =
    let all = map g.D.Disk.state c.args.stores.items in
    let kinds = c.in-Ok.kinds.items in
    let founds = c.in_ok-stores.field-0.found in
    let stores = c.in_ok-stores.field-0.stores in
    let long : length c.args.stores.items ≡ length all = sym (length-map c.args.stores.items g.D.Disk.state) in
    let len : c.len.result ≡ length all = c.len.ensures ∙ c.args.stores.ok.0 ∙ long in
    let kinds_are = subst (λ (n : ℕ). AreKinds c.args.setup.dests n kinds) len (subst (λ (ds : List DestSetup). AreKinds ds c.len.result kinds) c.as_slice.ensures c.in-Ok.ensures) in
    let o = subst (λ (ks : List StoreKind). AreOpened ks all founds stores) c.deref.ensures.value c.in_ok-stores.ensures.opened in
    let numbers = subst (NumberStores c.args.setup) long c.requires.numbers in
    let xs : c.in-Ok-sources_at.sources ≡ map (opened_source stores) c.args.setup.sources = c.in-Ok-sources_at.ensures ∙ ap (map (opened_source stores)) c.as_slice-3.ensures in
    let ks : seen_in c.in-Ok-sinks_at.sinks ≡ map (opened_sink founds) c.args.setup.dests = c.in-Ok-sinks_at.ensures ∙ ap (map (opened_sink founds)) c.as_slice-2.ensures in
    let W : List Source → Type 0 = λ ys. IsWholeCore (record { sources = ys; sinks = map (opened_sink founds) c.args.setup.dests; stores = stores; calls = 0 }) in
    let V : List SinkState → Type 0 = λ ys. IsWholeCore (record { sources = c.in-Ok-sources_at.sources; sinks = ys; stores = stores; calls = 0 }) in
    subst V (sym ks) (subst W (sym xs) (whole-opened c.args.setup kinds all founds stores kinds_are o numbers c.requires.capacities))

pub returns-clause-opened : goal.returns-clause-opened
returns-clause-opened g c =
    let all = map g.D.Disk.state c.args.stores.items in
    let kinds = c.in-Ok.kinds.items in
    let founds = c.in_ok-stores.field-0.found in
    let stores = c.in_ok-stores.field-0.stores in
    let long : length c.args.stores.items ≡ length all = sym (length-map c.args.stores.items g.D.Disk.state) in
    let len : c.len.result ≡ length all = c.len.ensures ∙ c.args.stores.ok.0 ∙ long in
    let kinds_are = subst (λ (n : ℕ). AreKinds c.args.setup.dests n kinds) len (subst (λ (ds : List DestSetup). AreKinds ds c.len.result kinds) c.as_slice.ensures c.in-Ok.ensures) in
    let o = subst (λ (ks : List StoreKind). AreOpened ks all founds stores) c.deref.ensures.value c.in_ok-stores.ensures.opened in
    let numbers = subst (NumberStores c.args.setup) long c.requires.numbers in
    let xs : c.in-Ok-sources_at.sources ≡ map (opened_source stores) c.args.setup.sources = c.in-Ok-sources_at.ensures ∙ ap (map (opened_source stores)) c.as_slice-3.ensures in
    let ks : seen_in c.in-Ok-sinks_at.sinks ≡ map (opened_sink founds) c.args.setup.dests = c.in-Ok-sinks_at.ensures ∙ ap (map (opened_sink founds)) c.as_slice-2.ensures in
    let W : List Source → Type 0 = λ ys. IsOpen c.args.setup all (record { sources = ys; sinks = map (opened_sink founds) c.args.setup.dests; stores = stores; calls = 0 }) in
    let V : List SinkState → Type 0 = λ ys. IsOpen c.args.setup all (record { sources = c.in-Ok-sources_at.sources; sinks = ys; stores = stores; calls = 0 }) in
    subst V (sym ks) (subst W (sym xs) (open-opened c.args.setup kinds all founds stores kinds_are o numbers))
