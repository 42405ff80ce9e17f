-- The items that a transaction made.
use Rattle.std.specs.Prelude.{◌≡◌, ℕ, ◌+◌, ◌<◌, ◌≤◌, None, Some}
use Rattle.lay_layouts.specs.declared.id.ItemId.{ItemId}
use Rattle.lay_layouts.specs.declared.item.Item as items
use Rattle.lay_layouts.specs.Layout.{Layout, item_at}
use Rattle.txn_commands.specs.declared.command.Done.{Done}
use Rattle.txn_commands.specs.declared.command.Done.TheVariants.{Empty, Found, Made, Plain, Several}
use Rattle.txn_commands.specs.declared.command.TxnId.{TxnId}
use Rattle.txn_commands.specs.Effects.{Run}

-- the id is of one of the first items that the transaction made, so many of them
pub record IsOwn (txn : TxnId) (made : ℕ) (id : ItemId) : Type 0 where
  pub session : id.session ≡ txn.session
  pub txn_of : id.txn ≡ txn.txn
  pub first : 1 ≤ id.seq
  pub last : id.seq ≤ made

-- the id that is so many behind this one
abbrev pub id_from : ItemId → ℕ → ItemId
id_from id n = record { session = id.session; txn = id.txn; seq = id.seq + n }

-- the answer names the item of this id
abbrev pub Names : Done → ItemId → Type 0
Names (Made made) id = made ≡ id
Names (Several first count) id = (n : ℕ) × (n < count) × (id_from first n ≡ id)
Names Empty id = ⊥
Names Plain id = ⊥
Names (Found item) id = ⊥

-- the items that an answer names are the transaction's own
abbrev pub AnswersOwn : TxnId → ℕ → Done → Type 0
AnswersOwn txn made done = (id : ItemId) → Names done id → IsOwn txn made id

-- items under ids that were free are the transaction's own
abbrev pub NewAreOwn : TxnId → Layout → Run → Type 0
NewAreOwn txn old run = (id : ItemId) (item : items.Item) → item_at old id ≡ None → item_at run.layout id ≡ Some item →
    IsOwn txn run.made id
