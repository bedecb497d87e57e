use Rattle.sg_resolve.proofs.OneDriver.{driver-counted}
use Rattle.sg_resolve.proofs.driver.count_driver.Goals as goal

pub returns : goal.returns
returns c =
    driver-counted c.args.texts.now c.args.count.now c.args.side c.args.call.now c.earlier-count.result c.in_ok-own.own c.limit_fault-limit.result c.repeat_fault-repeat.result c.earlier.result c.earlier-2.result c.more_inlets-count.result c.more_destinations-count.result c.enter_store.new.stores c.in_ok-store.store
    c.in_ok-own.ensures c.in_ok-store.ensures c.more_inlets-count.ensures c.more_destinations-count.ensures c.limit_fault-limit.ensures c.repeat_fault-repeat.ensures c.in_ok-enter_store.ensures c.earlier.ensures c.earlier-2.ensures c.earlier-count.ensures
