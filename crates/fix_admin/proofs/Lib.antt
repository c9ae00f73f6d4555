mod IntLemmas
mod PushLemmas
mod FollowLemmas
