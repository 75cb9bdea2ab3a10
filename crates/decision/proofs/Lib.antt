mod RecoveryBox
mod Answer
