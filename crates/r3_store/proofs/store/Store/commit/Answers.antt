use Rattle.std.proofs.Common.{◌≡◌, ◌+◌, ◌++◌, [], ◌∷◌, List, ℕ, length, take, drop, map, Err, None, sym, ap, subst, ◌∙◌, arith}
use Rattle.r3_entry.specs.declared.entry.Entry.{Entry}
use Rattle.r3_rows.specs.Keys.{key_cmp}
use Rattle.r3_chain.specs.Versions.{key_set}
use Rattle.r3_entry.specs.Bytes.{entry, size}
use Rattle.r3_gate.specs.Gate.{Tracks}
use Rattle.r3_gate.specs.declared.gate.Gate.{Gate}
use Rattle.r3_snap.specs.Conflicts.{keys_of}
use Rattle.r3_formed.specs.Past.{AreReady, StandFor, all_installed, first_conflict}
use Rattle.r3_formed.specs.Load.{payloads}
use Rattle.r3_store.specs.Holds.{Holds}
use Rattle.r3_formed.specs.Answers.{text_of, text_at}
use Rattle.r3_store.specs.declared.store.Store.{Store}
use Rattle.r3_store.specs.declared.fault.CommitFault.TheVariants as faults
use Rattle.r3_store.proofs.Images.{history_of_log}
use Rattle.r3_store.proofs.OpenLaws.{entry_long}
use Rattle.r3_store.proofs.Conflicts.{same_conflict}
use Rattle.r3_store.proofs.Found.{not_trimmed}
use Rattle.r3_store.proofs.Publishes.{next_number, unmoved, keeps_settled}
use Rattle.r3_gate.specs.declared.fault.Limit.TheVariants as limits
use Rattle.r3_store.proofs.Conflicts.{err_found, none_some}
use Rattle.r3_store.proofs.Follows.{Logs, follows, held_on, numbers}
use Rattle.r3_store.proofs.store.Store.commit.Goals as goal

pub prepare-requires-clause-room : goal.prepare-requires-clause-room
prepare-requires-clause-room g c =
    let stands = c.requires.holds.2.stands in
    omega (
      arith,
      c.versions_are_few.ensures c.args.self.now.chains.versions c.requires.holds.0 c.args.self.now.oldest c.args.entry stands.versions stands.formed.small c.requires.payload,
      c.args.self.now.cap,
    )

pub append-requires-clause-payload : goal.append-requires-clause-payload
append-requires-clause-payload g c =
    let long : length c.deref.result.now ≡ length (entry c.args.entry) = ap length (c.deref.ensures.value ∙ c.in-Ok.ensures.bytes) in
    (omega (arith, long, entry_long c.args.entry), omega (arith, long, c.requires.payload))

pub append-requires-clause-tracks : goal.append-requires-clause-tracks
append-requires-clause-tracks g c =
    let h : List Entry = c.requires.holds.0 in
    let k : ℕ = c.requires.holds.1 in
    let holds : Holds g.D.Desk.size g.D.Desk.image g.D.Desk.may_leave c.args.desk.now c.args.self.now h k = c.requires.holds.2 in
    let tracks : Tracks g.D.Desk.size g.D.Desk.image g.D.Desk.may_leave c.args.desk.now c.prepare.new.self.gate (payloads (take k h)) (payloads (drop k h)) =
    subst (λ (x : Gate). Tracks g.D.Desk.size g.D.Desk.image g.D.Desk.may_leave c.args.desk.now x (payloads (take k h)) (payloads (drop k h))) (sym c.prepare.ensures.same.gate) holds.tracks in
    (payloads (take k h), payloads (drop k h), tracks)

pub install-requires-clause-ready : goal.install-requires-clause-ready
install-requires-clause-ready g c =
    let h : List Entry = c.requires.holds.0 in
    let k : ℕ = c.requires.holds.1 in
    let holds : Holds g.D.Desk.size g.D.Desk.image g.D.Desk.may_leave c.args.desk.now c.args.self.now h k = c.requires.holds.2 in
    let versions : c.append.new.self.chains.versions ≡ c.args.self.now.chains.versions = ap (λ (s : Store). s.chains.versions) c.append.ensures.chains ∙ c.prepare.ensures.same.versions in
    let tracks : Tracks g.D.Desk.size g.D.Desk.image g.D.Desk.may_leave c.args.desk.now c.prepare.new.self.gate (payloads (take k h)) (payloads (drop k h)) =
    subst (λ (x : Gate). Tracks g.D.Desk.size g.D.Desk.image g.D.Desk.may_leave c.args.desk.now x (payloads (take k h)) (payloads (drop k h))) (sym c.prepare.ensures.same.gate) holds.tracks in
    let number : c.in-Ok-append.number ≡ length h + 1 =
    c.in-Ok-append.ensures.number ∙ next_number _ _ _ _ _ c.args.self.now c.append.new.self.gate h k _ holds (c.in-Ok-append.ensures.tracks _ _ tracks) in
    let room : c.append.new.self.chains.room ≡ key_set key_cmp (keys_of c.args.entry.writes) = ap (λ (s : Store). s.chains.room) c.append.ensures.chains ∙ c.in-Ok.ensures.room in
    subst (λ (n : ℕ). AreReady n c.args.entry.writes c.append.new.self.chains.room c.append.new.self.chains.versions) (sym number)
    (c.history_goes_on.ensures.ready c.append.new.self.chains.versions h c.args.self.now.oldest c.args.entry c.append.new.self.chains.room
    (subst (λ es. StandFor es h c.args.self.now.oldest) (sym versions) holds.stands.versions) c.requires.limits.rising room)

pub install-requires-clause-text_room : goal.install-requires-clause-text_room
install-requires-clause-text_room g c = rw c.append.ensures.chains c.in-Ok.ensures.text_room

pub returns-in-Ok-append-clause-ok : goal.returns-in-Ok-append-clause-ok
returns-in-Ok-append-clause-ok g c = λ h k holds may.
    let versions : c.append.new.self.chains.versions ≡ c.args.self.now.chains.versions = ap (λ (s : Store). s.chains.versions) c.append.ensures.chains ∙ c.prepare.ensures.same.versions in
    let tracks : Tracks g.D.Desk.size g.D.Desk.image g.D.Desk.may_leave c.args.desk.now c.prepare.new.self.gate (payloads (take k h)) (payloads (drop k h)) =
    subst (λ (x : Gate). Tracks g.D.Desk.size g.D.Desk.image g.D.Desk.may_leave c.args.desk.now x (payloads (take k h)) (payloads (drop k h))) (sym c.prepare.ensures.same.gate) holds.tracks in
    let new : _ = c.in-Ok-append.ensures.tracks _ _ tracks in
    let number : c.in-Ok-append.number ≡ length h + 1 = c.in-Ok-append.ensures.number ∙ next_number _ _ _ _ _ c.args.self.now c.append.new.self.gate h k _ holds new in
    let logs : Logs g.D.Desk.size g.D.Desk.image g.D.Desk.may_leave c.append.new.desk c.args.self.now c.install.new.self h k c.args.entry c.in-Ok-append.number =
    record {
      number = number;
      tracks = subst (λ (x : Gate). Tracks g.D.Desk.size g.D.Desk.image g.D.Desk.may_leave c.append.new.desk x (payloads (take k h)) (payloads (drop k h) ++ entry c.args.entry ∷ [])) (sym c.install.ensures.others.0)
          (subst (λ (p : List ℕ). Tracks g.D.Desk.size g.D.Desk.image g.D.Desk.may_leave c.append.new.desk c.append.new.self.gate (payloads (take k h)) (payloads (drop k h) ++ p ∷ []))
          (c.deref.ensures.value ∙ c.in-Ok.ensures.bytes) new);
      versions = c.install.ensures.versions ∙ ap (λ es. all_installed c.in-Ok-append.number c.args.entry.writes es) versions;
      oldest = c.install.ensures.others.2 ∙ ap (λ (s : Store). s.oldest) c.append.ensures.chains ∙ c.prepare.ensures.same.oldest;
      pins = c.install.ensures.others.1 ∙ ap (λ (s : Store). s.pins) c.append.ensures.chains ∙ c.prepare.ensures.same.pins;
      texts = c.install.ensures.texts ∙ ap (λ ts. map text_of ts ++ text_at c.in-Ok-append.number c.args.entry.act) (ap (λ (s : Store). s.texts.items) c.append.ensures.chains ∙ c.prepare.ensures.same.texts);
    } in
    let none : first_conflict h c.args.entry.snap (keys_of c.args.entry.writes) ≡ None =
    sym (same_conflict c.args.self.now.chains.versions h c.args.self.now.oldest c.args.entry.snap (keys_of c.args.entry.writes) holds.stands.versions (not_trimmed c.args.self.now h c.args.entry.snap holds.stands c.requires.readable)) ∙ c.in-Ok.ensures.no_conflict in
    let n : _ = numbers _ _ _ _ _ h k holds in
    let count : c.prepare.new.self.gate.count ≡ length h = ap (λ (x : Gate). x.count) c.prepare.ensures.same.gate ∙ n.0 in
    let end : c.prepare.new.self.gate.end ≡ size h = ap (λ (x : Gate). x.end) c.prepare.ensures.same.gate ∙ n.1 in
    let long : length c.deref.result.now ≡ length (entry c.args.entry) = ap length (c.deref.ensures.value ∙ c.in-Ok.ensures.bytes) in (
      logs.number,
      held_on _ _ _ c.history_goes_on.ensures.versions c.history_goes_on.ensures.texts c.args.desk.now c.append.new.desk c.args.self.now _ h k c.in-Ok-append.number c.args.entry holds logs
          (c.formed_goes_on.ensures h c.args.entry holds.stands.formed (follows c.first_committer_wins.ensures h c.args.entry may none) c.requires.limits c.requires.payload
          (omega (arith, count, c.in-Ok-append.ensures.room.0)) (omega (arith, end, long, c.in-Ok-append.ensures.room.1))),
    )

pub returns-in-Ok-append-clause-pins : goal.returns-in-Ok-append-clause-pins
returns-in-Ok-append-clause-pins g c = c.install.ensures.others.1 ∙ ap (λ (s : Store). s.pins) c.append.ensures.chains ∙ c.prepare.ensures.same.pins

pub returns-in-Err-clause-conflict : goal.returns-in-Err-clause-conflict
returns-in-Err-clause-conflict g c = λ h stands j is.
    let fault : c.in-Err.fault ≡ faults.Conflict j = cc in
    sym (same_conflict c.args.self.now.chains.versions h c.args.self.now.oldest c.args.entry.snap (keys_of c.args.entry.writes) stands.versions (not_trimmed c.args.self.now h c.args.entry.snap stands c.requires.readable)) ∙ c.in-Err.ensures.conflict j (ap Err fault)

pub returns-in-Err-clause-found : goal.returns-in-Err-clause-found
returns-in-Err-clause-found g c = λ h stands j is. err_found c.in-Err.fault j (c.in-Err.ensures.found j (same_conflict c.args.self.now.chains.versions h c.args.self.now.oldest c.args.entry.snap (keys_of c.args.entry.writes) stands.versions (not_trimmed c.args.self.now h c.args.entry.snap stands c.requires.readable) ∙ is))

pub returns-in-Ok-append-clause-found : goal.returns-in-Ok-append-clause-found
returns-in-Ok-append-clause-found g c = λ h stands j is. absurd (none_some j (sym c.in-Ok.ensures.no_conflict ∙ same_conflict c.args.self.now.chains.versions h c.args.self.now.oldest c.args.entry.snap (keys_of c.args.entry.writes) stands.versions (not_trimmed c.args.self.now h c.args.entry.snap stands c.requires.readable) ∙ is))

pub returns-clause-found : goal.returns-clause-found
returns-clause-found g c = λ h stands j is. absurd (none_some j (sym c.in-Ok.ensures.no_conflict ∙ same_conflict c.args.self.now.chains.versions h c.args.self.now.oldest c.args.entry.snap (keys_of c.args.entry.writes) stands.versions (not_trimmed c.args.self.now h c.args.entry.snap stands c.requires.readable) ∙ is))

pub returns-clause-entries : goal.returns-clause-entries
returns-clause-entries g c = λ h stands is.
    let fault : c.in-Err-append.fault ≡ faults.Full limits.Entries = cc in
    omega (arith, c.in-Err-append.ensures.entries (ap Err fault), ap (λ (x : Gate). x.count) c.prepare.ensures.same.gate, stands.count)

pub returns-clause-bytes : goal.returns-clause-bytes
returns-clause-bytes g c = λ h k holds is.
    let fault : c.in-Err-append.fault ≡ faults.Full limits.Bytes = cc in
    let n : _ = numbers _ _ _ _ _ h k holds in
    let b : _ = c.in-Err-append.ensures.bytes (ap Err fault) in
    let long : length c.deref.result.now ≡ length (entry c.args.entry) = ap length (c.deref.ensures.value ∙ c.in-Ok.ensures.bytes) in
    (omega (arith, b.0, ap (λ (x : Gate). x.count) c.prepare.ensures.same.gate, n.0), omega (arith, b.1, long, ap (λ (x : Gate). x.end) c.prepare.ensures.same.gate, n.1))

pub returns-in-Ok-append-clause-room : goal.returns-in-Ok-append-clause-room
returns-in-Ok-append-clause-room g c = λ h k holds.
    let n : _ = numbers _ _ _ _ _ h k holds in
    let b : _ = c.in-Ok-append.ensures.room in
    let long : length c.deref.result.now ≡ length (entry c.args.entry) = ap length (c.deref.ensures.value ∙ c.in-Ok.ensures.bytes) in
    (omega (arith, b.0, ap (λ (x : Gate). x.count) c.prepare.ensures.same.gate, n.0), omega (arith, b.1, long, ap (λ (x : Gate). x.end) c.prepare.ensures.same.gate, n.1))

pub returns-in-Err-clause-crash : goal.returns-in-Err-clause-crash
returns-in-Err-clause-crash g c = λ h k holds.
    unmoved _ _ _ g.D.Desk.moment g.D.Desk.reach g.D.Desk.said g.D.Desk.asked _ _ h k holds (g.met.D.Desk.counts_now c.args.desk.now) (g.met.D.Desk.only_now c.args.desk.now)

pub returns-in-Ok-append-clause-crash : goal.returns-in-Ok-append-clause-crash
returns-in-Ok-append-clause-crash g c = λ h k holds.
    let tracks : Tracks g.D.Desk.size g.D.Desk.image g.D.Desk.may_leave c.args.desk.now c.prepare.new.self.gate (payloads (take k h)) (payloads (drop k h)) =
    subst (λ (x : Gate). Tracks g.D.Desk.size g.D.Desk.image g.D.Desk.may_leave c.args.desk.now x (payloads (take k h)) (payloads (drop k h))) (sym c.prepare.ensures.same.gate) holds.tracks in
    keeps_settled _ _ _ g.D.Desk.moment g.D.Desk.reach g.D.Desk.said g.D.Desk.asked _ _ _ h k holds (c.append.ensures.crash _ _ tracks)

pub returns-clause-crash : goal.returns-clause-crash
returns-clause-crash g c = λ h k holds.
    let tracks : Tracks g.D.Desk.size g.D.Desk.image g.D.Desk.may_leave c.args.desk.now c.prepare.new.self.gate (payloads (take k h)) (payloads (drop k h)) =
    subst (λ (x : Gate). Tracks g.D.Desk.size g.D.Desk.image g.D.Desk.may_leave c.args.desk.now x (payloads (take k h)) (payloads (drop k h))) (sym c.prepare.ensures.same.gate) holds.tracks in
    keeps_settled _ _ _ g.D.Desk.moment g.D.Desk.reach g.D.Desk.said g.D.Desk.asked _ _ _ h k holds (c.append.ensures.crash _ _ tracks)

pub returns-in-Err-clause-reads : goal.returns-in-Err-clause-reads
returns-in-Err-clause-reads g c = λ h k holds i told.
    history_of_log i (take k h) holds.settled_formed (c.reads_as_published.ensures.read c.args.desk.now c.args.self.now.gate (payloads (take k h)) (payloads (drop k h)) i holds.tracks told)

pub returns-in-Ok-append-clause-reads : goal.returns-in-Ok-append-clause-reads
returns-in-Ok-append-clause-reads g c = λ h k holds i told.
    let tracks : Tracks g.D.Desk.size g.D.Desk.image g.D.Desk.may_leave c.args.desk.now c.prepare.new.self.gate (payloads (take k h)) (payloads (drop k h)) =
    subst (λ (x : Gate). Tracks g.D.Desk.size g.D.Desk.image g.D.Desk.may_leave c.args.desk.now x (payloads (take k h)) (payloads (drop k h))) (sym c.prepare.ensures.same.gate) holds.tracks in
    history_of_log i (take k h) holds.settled_formed (c.append.ensures.reads _ _ tracks i told)

pub returns-clause-reads : goal.returns-clause-reads
returns-clause-reads g c = λ h k holds i told.
    let tracks : Tracks g.D.Desk.size g.D.Desk.image g.D.Desk.may_leave c.args.desk.now c.prepare.new.self.gate (payloads (take k h)) (payloads (drop k h)) =
    subst (λ (x : Gate). Tracks g.D.Desk.size g.D.Desk.image g.D.Desk.may_leave c.args.desk.now x (payloads (take k h)) (payloads (drop k h))) (sym c.prepare.ensures.same.gate) holds.tracks in
    history_of_log i (take k h) holds.settled_formed (c.append.ensures.reads _ _ tracks i told)

pub returns-in-Ok-append-clause-syncs : goal.returns-in-Ok-append-clause-syncs
returns-in-Ok-append-clause-syncs g c = λ h stands some.
    c.append.ensures.syncs (omega (arith, some, stands.count, ap (λ (x : Gate). x.count) c.prepare.ensures.same.gate))

pub returns-clause-syncs : goal.returns-clause-syncs
returns-clause-syncs g c = λ h stands some.
    c.append.ensures.syncs (omega (arith, some, stands.count, ap (λ (x : Gate). x.count) c.prepare.ensures.same.gate))

pub returns-clause-disk_room : goal.returns-clause-disk_room
returns-clause-disk_room g c = λ h k holds is.
    let fault : c.in-Err-append.fault ≡ faults.Disk = cc in
    let n : _ = numbers _ _ _ _ _ h k holds in
    let b : _ = c.in-Err-append.ensures.disk_room (ap Err fault) in
    let long : length c.deref.result.now ≡ length (entry c.args.entry) = ap length (c.deref.ensures.value ∙ c.in-Ok.ensures.bytes) in
    (omega (arith, b.0, ap (λ (x : Gate). x.count) c.prepare.ensures.same.gate, n.0), omega (arith, b.1, long, ap (λ (x : Gate). x.end) c.prepare.ensures.same.gate, n.1))
