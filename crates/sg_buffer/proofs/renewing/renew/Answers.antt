use Rattle.sg_buffer.proofs.Renewed.{within_same, holds_same, within_renewed, holds_renewed, same_bytes}
use Rattle.sg_buffer.proofs.renewing.renew.Goals as goal

pub returns-then-not-found-clause-within : goal.returns-then-not-found-clause-within
returns-then-not-found-clause-within g c = λ entries payloads finds holds.
    within_same (g.D.Disk.state c.args.spool.now.disk) c.args.spool.now.rows c.args.found.now entries payloads finds holds

pub returns-then-not-found-clause-renewed : goal.returns-then-not-found-clause-renewed
returns-then-not-found-clause-renewed g c = λ entries payloads finds holds.
    holds_same (g.D.Disk.state c.args.spool.now.disk) c.args.spool.now.rows c.args.found.now entries payloads finds holds c.if-not-found.true

pub returns-in-Err-DiskFault-clause-within : goal.returns-in-Err-DiskFault-clause-within
returns-in-Err-DiskFault-clause-within g c = λ entries payloads finds holds.
    within_renewed (g.D.Disk.state c.args.spool.now.disk) c.args.spool.now.rows c.args.found.now entries payloads finds holds c.entries_stay.ensures.older c.entries_stay.ensures.newer (g.D.Disk.state c.rewrite.new.self.disk) (c.rewrite.ensures.within payloads holds)

pub returns-in-Err-NoMemory-clause-within : goal.returns-in-Err-NoMemory-clause-within
returns-in-Err-NoMemory-clause-within g c = λ entries payloads finds holds.
    within_renewed (g.D.Disk.state c.args.spool.now.disk) c.args.spool.now.rows c.args.found.now entries payloads finds holds c.entries_stay.ensures.older c.entries_stay.ensures.newer (g.D.Disk.state c.rewrite.new.self.disk) (c.rewrite.ensures.within payloads holds)

pub returns-then-live-found-clause-within : goal.returns-then-live-found-clause-within
returns-then-live-found-clause-within g c = λ entries payloads finds holds.
    within_renewed (g.D.Disk.state c.args.spool.now.disk) c.args.spool.now.rows c.args.found.now entries payloads finds holds c.entries_stay.ensures.older c.entries_stay.ensures.newer (g.D.Disk.state c.rewrite.new.self.disk) (c.rewrite.ensures.within payloads holds)

pub returns-clause-within : goal.returns-clause-within
returns-clause-within g c = λ entries payloads finds holds.
    within_renewed (g.D.Disk.state c.args.spool.now.disk) c.args.spool.now.rows c.args.found.now entries payloads finds holds c.entries_stay.ensures.older c.entries_stay.ensures.newer (g.D.Disk.state c.rewrite.new.self.disk) (c.rewrite.ensures.within payloads holds)

pub returns-clause-renewed : goal.returns-clause-renewed
returns-clause-renewed g c = λ entries payloads finds holds.
    holds_renewed (g.D.Disk.state c.args.spool.now.disk) c.args.spool.now.rows c.args.found.now entries payloads finds holds c.entries_stay.ensures.older c.entries_stay.ensures.newer (g.D.Disk.state c.rewrite.new.self.disk) c.rewrite.new.self.rows c.rewrite.ensures.lasts.moves (c.in-Ok.ensures.answer.3 payloads holds)

pub returns-then-live-found-clause-reason : goal.returns-then-live-found-clause-reason
returns-then-live-found-clause-reason g c = λ entries payloads finds holds b told.
    let answer = c.in-Ok.ensures.answer in
    let same = same_bytes (g.D.Disk.state c.args.spool.now.disk) c.args.spool.now.rows c.args.found.now entries payloads finds holds c.entries_stay.ensures.older c.entries_stay.ensures.newer (g.D.Disk.state c.rewrite.new.self.disk)
    c.rewrite.new.self.rows c.live.result c.rewrite.ensures.lasts.moves (answer.3 payloads holds) c.live.ensures.small (c.live.ensures.space answer.1 (answer.3 payloads holds).number) b told in
    c.if-live-found.true same
