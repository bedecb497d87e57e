-- Lists of ways out: one more.
use Rattle.std.proofs.Common.{◌≡◌, ◌≤◌, ℕ, zero, suc, ◌+◌, List, [], ◌∷◌, ◌++◌, length, map, slice_get, Some, None, Option, refl, sym, ap, ◌∙◌, arith, subst}
use Rattle.std.proofs.lemmas.List.{length-append, length-map, map-append}
use Rattle.sg_list.proofs.ListLemmas.{some-same, slice_get-below}
use Rattle.sg_device.specs.Disk.{DiskState}
use Rattle.sg_device.specs.Outlet.{OutletState}
use Rattle.sg_device.specs.Paths.{PathsState}
use Rattle.sg_outside.specs.World.{WorldState, Opened}
use Rattle.sg_outside.specs.declared.request.OutletSpec.{OutletSpec}
use Rattle.sg_outside.specs.declared.request.StoreSpec.{StoreSpec}
use Rattle.sg_serve.specs.Devices.{opened_for, with_all_opened, AreStoresNamed, stores_opened, opened_stores, IsStoreAsked, AreStoresAsked, OpensOuts}
use Rattle.sg_serve.specs.Exits.{Out, inners_in, openers_in, singles, by_paths, present, IsOpenerAsked, AreAsked, AreFreshOuts}
use Rattle.sg_serve.proofs.DeviceLemmas.{opened-two}

asked-join : (specs : List OutletSpec) (openers more : List (Option PathsState)) (spec : OutletSpec) → AreAsked specs openers → slice_get specs (length openers) ≡ Some spec → AreAsked (spec ∷ []) more → AreAsked specs (openers ++ more)
asked-join specs [] [] spec a at b = tt
asked-join [] [] (m ∷ ms) spec a at b = let wrong : None ≡ Some spec = at in cc
asked-join (p ∷ ps) [] (m ∷ []) spec a at b = (subst (λ (q : OutletSpec). IsOpenerAsked q m) (sym (some-same p spec at)) b.0, tt)
asked-join (p ∷ ps) [] (m ∷ n ∷ ms) spec a at b = absurd b.1
asked-join [] (o ∷ os) more spec a at b = absurd a
asked-join (p ∷ ps) (o ∷ os) more spec a at b = (a.0, asked-join ps os more spec a.1 at b)

-- what stands in the ledger of outlets without an opener, behind what stood there
singles-join : (specs : List OutletSpec) (drains : List OutletState) (openers : List (Option PathsState)) (spec : OutletSpec) (more : List OutletState) (last : List (Option PathsState)) → length openers ≡ length drains
    → slice_get specs (length drains) ≡ Some spec → length last ≡ length more → length more ≤ 1
    → opened_for (singles specs (openers ++ last)) (singles (drains ++ more) (openers ++ last)) ≡ opened_for (singles specs openers) (singles drains openers) ++ opened_for (singles (spec ∷ []) last) (singles more last)
singles-join [] drains openers spec more last long at each few = let wrong : None ≡ Some spec = at in cc
singles-join (p ∷ ps) [] [] spec [] [] long at each few = refl
singles-join (p ∷ ps) [] [] spec [] (l ∷ ls) long at each few = let wrong : suc (length ls) ≡ zero = each in cc
singles-join (p ∷ ps) [] [] spec (m ∷ ms) [] long at each few = let wrong : zero ≡ suc (length ms) = each in cc
singles-join (p ∷ ps) [] [] spec (m ∷ []) (None ∷ []) long at each few = ap (λ (q : OutletSpec). (record { spec = q; state = m }) ∷ []) (some-same p spec at)
singles-join (p ∷ ps) [] [] spec (m ∷ []) (Some o ∷ []) long at each few = refl
singles-join (p ∷ ps) [] [] spec (m ∷ []) (l ∷ k ∷ ls) long at each few = absurd (omega (arith, each))
singles-join (p ∷ ps) [] [] spec (m ∷ n ∷ ms) (l ∷ ls) long at each few = absurd (omega (arith, few))
singles-join (p ∷ ps) [] (o ∷ os) spec more last long at each few = let wrong : suc (length os) ≡ zero = long in cc
singles-join (p ∷ ps) (d ∷ ds) [] spec more last long at each few = let wrong : zero ≡ suc (length ds) = long in cc
singles-join (p ∷ ps) (d ∷ ds) (None ∷ os) spec more last long at each few =
    ap (λ rest. (record { spec = p; state = d }) ∷ rest) (singles-join ps ds os spec more last (omega (arith, long)) at each few)
singles-join (p ∷ ps) (d ∷ ds) (Some o ∷ os) spec more last long at each few = singles-join ps ds os spec more last (omega (arith, long)) at each few

-- and in that of openers
paths-join : (specs : List OutletSpec) (openers : List (Option PathsState)) (spec : OutletSpec) (last : List (Option PathsState)) → slice_get specs (length openers) ≡ Some spec → length last ≤ 1
    → opened_for (by_paths specs (openers ++ last)) (present (openers ++ last)) ≡ opened_for (by_paths specs openers) (present openers) ++ opened_for (by_paths (spec ∷ []) last) (present last)
paths-join [] openers spec last at few = let wrong : None ≡ Some spec = at in cc
paths-join (p ∷ ps) [] spec [] at few = refl
paths-join (p ∷ ps) [] spec (None ∷ []) at few = refl
paths-join (p ∷ ps) [] spec (Some o ∷ []) at few = ap (λ (q : OutletSpec). (record { spec = q; state = o }) ∷ []) (some-same p spec at)
paths-join (p ∷ ps) [] spec (l ∷ k ∷ ls) at few = absurd (omega (arith, few))
paths-join (p ∷ ps) (None ∷ os) spec last at few = paths-join ps os spec last at few
paths-join (p ∷ ps) (Some o ∷ os) spec last at few = ap (λ rest. (record { spec = p; state = o }) ∷ rest) (paths-join ps os spec last at few)

-- and in that of stores
none-left : (specs : List (Option StoreSpec)) → stores_opened specs [] ≡ []
none-left [] = refl
none-left (p ∷ ps) = refl

stores-first : (p spec : Option StoreSpec) (ps : List (Option StoreSpec)) (s : Option DiskState) → p ≡ spec → IsStoreAsked p s
    → opened_for (stores_opened (p ∷ ps) (s ∷ [])) (present (s ∷ [])) ≡ opened_for (stores_opened (spec ∷ []) (s ∷ [])) (present (s ∷ []))
stores-first p spec ps None same asked = refl
stores-first None spec ps (Some disk) same asked = absurd (let wrong : Some disk ≡ None = asked in cc)
stores-first (Some sp) spec ps (Some disk) same asked =
    ap (λ (q : Option StoreSpec). opened_for (stores_opened (q ∷ []) (Some disk ∷ [])) (disk ∷ [])) same

stores-step : (p : Option StoreSpec) (ps : List (Option StoreSpec)) (s : Option DiskState) (xs ys : List (Option DiskState)) (zs : List (Opened StoreSpec DiskState)) → IsStoreAsked p s
    → opened_for (stores_opened ps xs) (present xs) ≡ opened_for (stores_opened ps ys) (present ys) ++ zs
    → opened_for (stores_opened (p ∷ ps) (s ∷ xs)) (present (s ∷ xs)) ≡ opened_for (stores_opened (p ∷ ps) (s ∷ ys)) (present (s ∷ ys)) ++ zs
stores-step None ps None xs ys zs asked same = same
stores-step None ps (Some disk) xs ys zs asked same = absurd (let wrong : Some disk ≡ None = asked in cc)
stores-step (Some sp) ps None xs ys zs asked same = same
stores-step (Some sp) ps (Some disk) xs ys zs asked same = ap (λ rest. (record { spec = sp; state = disk }) ∷ rest) same

stores-join : (specs : List (Option StoreSpec)) (outs : List Out) (spec : Option StoreSpec) (out : Out) → AreStoresAsked specs outs → slice_get specs (length outs) ≡ Some spec → IsStoreAsked spec out.store
    → opened_stores specs (outs ++ out ∷ []) ≡ opened_stores specs outs ++ opened_stores (spec ∷ []) (out ∷ [])
stores-join [] [] spec out asked at last = absurd (let wrong : None ≡ Some spec = at in cc)
stores-join (p ∷ ps) [] spec out asked at last =
    let same = some-same p spec at in
    stores-first p spec ps out.store same (subst (λ (q : Option StoreSpec). IsStoreAsked q out.store) (sym same) last)
stores-join [] (o ∷ os) spec out asked at last = absurd asked
stores-join (p ∷ ps) (o ∷ os) spec out asked at last =
    stores-step p ps o.store (map (λ (x : Out). x.store) (os ++ out ∷ [])) (map (λ (x : Out). x.store) os) (opened_stores (spec ∷ []) (out ∷ [])) asked.0 (stores-join ps os spec out asked.1 at last)

stores-asked-join : (specs : List (Option StoreSpec)) (outs : List Out) (spec : Option StoreSpec) (out : Out) → AreStoresAsked specs outs → slice_get specs (length outs) ≡ Some spec → IsStoreAsked spec out.store → AreStoresAsked specs (outs ++ out ∷ [])
stores-asked-join [] [] spec out asked at last = absurd (let wrong : None ≡ Some spec = at in cc)
stores-asked-join (p ∷ ps) [] spec out asked at last = (subst (λ (q : Option StoreSpec). IsStoreAsked q out.store) (sym (some-same p spec at)) last, tt)
stores-asked-join [] (o ∷ os) spec out asked at last = absurd asked
stores-asked-join (p ∷ ps) (o ∷ os) spec out asked at last = (asked.0, stores-asked-join ps os spec out asked.1 at last)

named-join : (before : Option (List (List ℕ))) (os more : List (Opened StoreSpec DiskState)) (mid after : Option (List (List ℕ))) → AreStoresNamed before os mid → AreStoresNamed mid more after → AreStoresNamed before (os ++ more) after
named-join before [] more mid after a b = subst (λ n. AreStoresNamed n more after) a b
named-join before (o ∷ os) more mid after (between, one, rest) b = (between, one, named-join between os more mid after rest b)

fresh-join : (outs more : List Out) → AreFreshOuts outs → AreFreshOuts more → AreFreshOuts (outs ++ more)
fresh-join [] more a b = b
fresh-join (o ∷ os) more a b = (a.0, fresh-join os more a.1 b)

pub outs-more : (old mid new : WorldState) (specs : List OutletSpec) (stores : List (Option StoreSpec)) (outs : List Out) (spec : OutletSpec) (store : Option StoreSpec) (out : Out)
    → OpensOuts old mid specs stores outs → slice_get specs (length outs) ≡ Some spec → slice_get stores (length outs) ≡ Some store → OpensOuts mid new (spec ∷ []) (store ∷ []) (out ∷ [])
    → OpensOuts old new specs stores (outs ++ out ∷ [])
outs-more old mid new specs stores outs spec store out a at at_store b =
    let inner = inners_in outs in
    let opener = openers_in outs in
    let one_inner = out.inner ∷ [] in
    let one_opener = out.opener ∷ [] in
    let low = slice_get-below specs (length outs) spec at in
    let many_inner : length inner ≡ length outs = length-map outs (λ (x : Out). x.inner) in
    let many_opener : length opener ≡ length outs = length-map outs (λ (x : Out). x.opener) in
    let at_opener : slice_get specs (length opener) ≡ Some spec = ap (slice_get specs) many_opener ∙ at in
    let at_inner : slice_get specs (length inner) ≡ Some spec = ap (slice_get specs) many_inner ∙ at in
    let all_inner : inners_in (outs ++ out ∷ []) ≡ inner ++ one_inner = map-append (λ (x : Out). x.inner) outs (out ∷ []) in
    let all_opener : openers_in (outs ++ out ∷ []) ≡ opener ++ one_opener = map-append (λ (x : Out). x.opener) outs (out ∷ []) in
    let out_first = opened_for (singles specs opener) (singles inner opener) in
    let out_more = opened_for (singles (spec ∷ []) one_opener) (singles one_inner one_opener) in
    let path_first = opened_for (by_paths specs opener) (present opener) in
    let path_more = opened_for (by_paths (spec ∷ []) one_opener) (present one_opener) in
    let store_first = opened_stores stores outs in
    let store_more = opened_stores (store ∷ []) (out ∷ []) in
    let out_join = (λ i. opened_for (singles specs (all_opener i)) (singles (all_inner i) (all_opener i))) ∙ singles-join specs inner opener spec one_inner one_opener (many_opener ∙ sym many_inner) at_inner refl (omega arith) in
    let path_join = (λ i. opened_for (by_paths specs (all_opener i)) (present (all_opener i))) ∙ paths-join specs opener spec one_opener at_opener (omega arith) in
    let store_join = stores-join stores outs store out a.stores_asked at_store (b.stores_asked).0 in
    record {
      count = (let n = length-append outs (out ∷ []) in omega (arith, n, low));
      asked = subst (λ os. AreAsked specs os) (sym all_opener) (asked-join specs opener one_opener spec a.asked at_opener b.asked);
      stores_asked = stores-asked-join stores outs store out a.stores_asked at_store (b.stores_asked).0;
      fresh = fresh-join outs (out ∷ []) a.fresh b.fresh;
      state = b.state
          ∙ ap (λ (m : WorldState). record m {
            outlet_faults = new.outlet_faults;
            paths_faults = new.paths_faults;
            store_faults = new.store_faults;
            store_names = new.store_names;
            outlets = with_all_opened m.outlets out_more;
            paths = with_all_opened m.paths path_more;
            stores = with_all_opened m.stores store_more;
          }) a.state
          ∙ (λ i. record old {
            outlet_faults = new.outlet_faults;
            paths_faults = new.paths_faults;
            store_faults = new.store_faults;
            store_names = new.store_names;
            outlets = (opened-two old.outlets out_first out_more ∙ ap (λ os. with_all_opened old.outlets os) (sym out_join)) i;
            paths = (opened-two old.paths path_first path_more ∙ ap (λ os. with_all_opened old.paths os) (sym path_join)) i;
            stores = (opened-two old.stores store_first store_more ∙ ap (λ os. with_all_opened old.stores os) (sym store_join)) i;
          });
      named = subst (λ os. AreStoresNamed old.store_names os new.store_names) (sym store_join) (named-join old.store_names store_first store_more mid.store_names new.store_names a.named b.named);
      faults = (let f = a.faults in let g = b.faults in omega (arith, f, g));
      paths_faults = (let f = a.paths_faults in let g = b.paths_faults in omega (arith, f, g));
      store_faults = (let f = a.store_faults in let g = b.store_faults in omega (arith, f, g));
    }
