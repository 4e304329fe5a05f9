-- An end over the store is an end of serving.
use Rattle.std.proofs.Common.{inr, ℕ, Err}
use Rattle.disk.specs.Beside.{Beside}
use Rattle.disk.specs.Images.{Images, Pending}
use Rattle.disk.specs.declared.file.File.{File}
use Rattle.schemas.specs.Dated.{Dated}
use Rattle.served_history.specs.Ends.{IsEndOver, IsServeEnd}
use Rattle.served_history.specs.Faults.{of_store}
use Rattle.served_history.specs.Releases.{FlagTexts}
use Rattle.store_session.specs.declared.fault.StoreFault.{StoreFault}
use Rattle.store_session.specs.declared.fault.StoreFault.TheVariants as store

module _ {W : Type 0} (tells : Type 0) (clock : W → ℕ) (may_leave : W → ℕ → Images → Type 0) (held : W → Images) (pending : W → File → Pending) (beside : W → Beside) (h : Dated) (o : FlagTexts) where
  pub store_end : (old new : W) (f : StoreFault) → IsEndOver tells clock may_leave held pending beside h o old new (Err f) → IsServeEnd tells clock may_leave held pending beside h o old new (Err (of_store f))
  store_end old new (store.NotAStore file at) is = is
  store_end old new (store.Undecodable key version minor) is = is
  store_end old new store.Disk is = is
  store_end old new store.Front is = is
  store_end old new store.Spent is = is
  store_end old new store.Memory is = inr is
