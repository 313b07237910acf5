-- A site may go to another thread where its tree and its sink may.
use denote.RattleType.{RattleType}
use denote.Param.Send.{AllSend, IsSend, recorded_send, sendable, struct_send, view_send}
use denote.Struct.Declared as declared
use denote.Struct.Struct.{Struct}
use Rattle.std.specs.contracts.snapshot.Snapshot as Snapshot
use Rattle.std.specs.contracts.alloc.Global as Heap
use Rattle.std.proofs.Crossing.{crosses, Vec-send}
use Rattle.std.proofs.MapsCrossing.{crosses as maps}
use Rattle.file_tree.specs.contracts.objects.Object as Object
use Rattle.file_tree.specs.declared.traits.Sink.{Ghosts as Sink}
use Rattle.file_tree.specs.declared.traits.Tree.{Ghosts as Tree}
use Rattle.http_server.proofs.log.Log.TheSendSync.{the_send as log_send}
use Rattle.merge_core.specs.contracts.machine.Core as Core
use Rattle.owner_book.specs.contracts.book.OwnerBook as OwnerBook
use Rattle.owner_book.specs.contracts.wish.Wish as Wish
use Rattle.merge_site.specs.contracts.group.SiteGroup as SiteGroup
use Rattle.merge_site.specs.contracts.job.Job as Job
use Rattle.merge_site.specs.contracts.history.Happened as Happened
use Rattle.merge_site.specs.contracts.site.Site.{the_row}
use Rattle.merge_site.specs.contracts.site.Site.TheInside as Inside

object_send : IsSend Object.the_row
object_send = search (sendable, crosses) depth 30

core_send : IsSend Core.the_row
core_send = search (sendable, crosses) depth 30

wish_send : IsSend Wish.the_row
wish_send = search (sendable, crosses) depth 30

group_send : IsSend SiteGroup.the_row
group_send = search (sendable, crosses) depth 30

job_send : IsSend Job.the_row
job_send = search (sendable, crosses) depth 30

book_send : IsSend OwnerBook.the_row
book_send = search (sendable, crosses, maps) depth 30

happened_send : IsSend Happened.the_row
happened_send = search (sendable, crosses) depth 30

snapshot_send : (T : RattleType) → IsSend (Snapshot.the_row T)
snapshot_send T = search (sendable, crosses) depth 20

-- in the order of the fields of `Site`
fields_send : (T S : RattleType) (t : Tree T.Denot) (s : Sink S.Denot) → IsSend T → IsSend S → AllSend (declared.fields (Inside.the_type T S t s))
fields_send T S t s a b =
    let heap : IsSend (Heap.the_field).row = search (sendable, crosses) depth 20 in (
      heap,
      (
        a,
        (
          b,
          (
            core_send,
            (
              Vec-send _ group_send,
              (
                Vec-send _ job_send,
                (
                  Vec-send _ (Vec-send _ wish_send),
                  (book_send, (snapshot_send OwnerBook.the_row, (object_send, (snapshot_send T, (log_send _ _ happened_send (search sendable), tt))))),
                ),
              ),
            ),
          ),
        ),
      ),
    )

pub site_send : (T S : RattleType) (t : Tree T.Denot) (s : Sink S.Denot) → IsSend T → IsSend S → IsSend (the_row T S t s)
site_send T S t s a b =
    let inside = Inside.the_type T S t s in
    view_send (Inside.the_row T S t s) _ _ _ _ (recorded_send (Struct (declared.shape inside)) inside.D inside.to inside.to_one (struct_send (declared.shape inside) (fields_send T S t s a b)))
