use Rattle.std.proofs.Common.{◌≡◌, ◌<◌, ℕ, length, sym, subst, ◌∙◌, arith}
use Rattle.std.specs.Global.{Vec}
use Rattle.std.specs.Prelude.{All}
use Rattle.std.specs.Vec.{with_item}
use Rattle.std.proofs.lemmas.List.{map-set}
use Rattle.face_sweep.specs.declared.own_rows.OwnRows.{OwnRows}
use Rattle.face_sweep.specs.OwnRows.{lists_of}
use Rattle.face_sweep.proofs.OwnLemmas.{list_read, own_changed, room_changed}
use Rattle.face_sweep.proofs.own_rows.OwnRows.put_at.Goals as goal

pub put_number-requires-clause-given : goal.put_number-requires-clause-given
put_number-requires-clause-given c =
    let i = c.args.index in
    let inside : i < length (lists_of c.args.self.now) = omega (arith, c.requires.room.count, c.requires.index) in
    subst (All (λ n. n < length c.args.edges.now.0))
    (sym (list_read c.args.self.now i c.index_mut.result.now inside c.index_mut.ensures.value)) (c.requires.room.given i)

pub returns-clause-room : goal.returns-clause-room
returns-clause-room c =
    let old = c.args.self.now in
    let i = c.args.index in
    let v = c.put_number.new.list in
    let new : OwnRows = record { lists = with_item old.lists i v } in
    let within = c.requires.index in
    room_changed c.args._reach.now.traced.items old new i v.items c.requires.room.count within
    (map-set (λ (u : Vec ℕ). u.items) old.lists.items i v) c.args.edges.now c.requires.room c.in_ok-put_number.ensures.given

pub returns-clause-put : goal.returns-clause-put
returns-clause-put c = λ owner at own after right left is cut is_after others h.
    let old = c.args.self.now in
    let i = c.args.index in
    let v = c.put_number.new.list in
    let new : OwnRows = record { lists = with_item old.lists i v } in
    let within = c.requires.index in
    let inside : i < length (lists_of old) = omega (arith, c.requires.room.count, within) in
    let was : c.index_mut.result.now.items ≡ own owner =
    list_read old i c.index_mut.result.now inside c.index_mut.ensures.value ∙ h i owner within at in
    own_changed c.args._reach.now.traced.items old new i v.items c.requires.room.count within
    (map-set (λ (u : Vec ℕ). u.items) old.lists.items i v) owner own after c.requires.rising at
    (c.in_ok-put_number.ensures.put right left (was ∙ is) cut ∙ sym is_after) others h
